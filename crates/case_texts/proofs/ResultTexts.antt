-- What the reader of results tells of its texts.
use Rattle.std.proofs.Common.{ℕ, ◌≡◌, List, Err, sym, subst, true, Result}
use Rattle.result_files.specs.declared.result_fault.ResultFault.{ResultFault}
use Rattle.result_files.specs.declared.result_fault.ResultFault.TheVariants as told
use Rattle.result_files.specs.ThreeTexts.{HasWrongToken, ResultAnswers}
use Rattle.verilog_lex.specs.declared.fault.LexFault.{LexFault}
use Rattle.verilog_lex.specs.declared.fault.LexFault.TheVariants as lex
use Rattle.verilog_lex.specs.declared.token.Token.{Token}
use Rattle.verilog_lex.specs.Reads as reading
use Rattle.case_texts.specs.declared.refusal.NetlistsFault.TheVariants as netlist_fault
use Rattle.case_texts.specs.declared.refusal.Refusal.TheVariants as refusal
use Rattle.case_texts.specs.declared.refusal.Unread.{Unread}
use Rattle.case_texts.specs.declared.refusal.Unread.TheVariants as unread
use Rattle.case_texts.specs.Faults.{netlist_lex_refusal}
use Rattle.case_texts.specs.Results.{IsResultRefusal, ResultsMean, TokenIsWrong, WrongMeans}

-- the token that is told is the netlist's wrong one
pub token_is_wrong : (netlist schedule map : List ℕ) (fault : ResultFault) → ResultAnswers netlist schedule map (Err fault) → TokenIsWrong netlist fault
token_is_wrong netlist schedule map (told.NetlistForm token) answers = answers
token_is_wrong netlist schedule map (told.NetlistLex fault) answers = tt
token_is_wrong netlist schedule map (told.NetlistShape chip net) answers = tt
token_is_wrong netlist schedule map told.ScheduleNotJson answers = tt
token_is_wrong netlist schedule map told.ScheduleVersion answers = tt
token_is_wrong netlist schedule map (told.ScheduleForm frame slot action) answers = tt
token_is_wrong netlist schedule map told.MapNotJson answers = tt
token_is_wrong netlist schedule map told.MapVersion answers = tt
token_is_wrong netlist schedule map (told.MapForm entry) answers = tt
token_is_wrong netlist schedule map told.NoMemory answers = tt

-- the byte of the wrong token tells the netlist's fault
wrong_means : (netlist schedule map : List ℕ) (why : Unread) → WrongMeans netlist why → ResultsMean netlist schedule map (Err why)
wrong_means netlist schedule map (unread.Refused (refusal.Netlist (netlist_fault.Form at))) means = means
wrong_means netlist schedule map (unread.Refused (refusal.Netlist (netlist_fault.BadByte x))) means = absurd means
wrong_means netlist schedule map (unread.Refused (refusal.Netlist (netlist_fault.OpenComment x))) means = absurd means
wrong_means netlist schedule map (unread.Refused (refusal.Netlist (netlist_fault.OpenAttribute x))) means = absurd means
wrong_means netlist schedule map (unread.Refused (refusal.Netlist (netlist_fault.BadNumber x))) means = absurd means
wrong_means netlist schedule map (unread.Refused (refusal.Netlist (netlist_fault.UnknownDigit x))) means = absurd means
wrong_means netlist schedule map (unread.Refused (refusal.Netlist (netlist_fault.Directive x))) means = absurd means
wrong_means netlist schedule map (unread.Refused (refusal.Netlist (netlist_fault.Shape x y))) means = absurd means
wrong_means netlist schedule map (unread.Refused (refusal.Faulty x)) means = absurd means
wrong_means netlist schedule map (unread.Refused (refusal.Cells x)) means = absurd means
wrong_means netlist schedule map (unread.Refused (refusal.Design x)) means = absurd means
wrong_means netlist schedule map (unread.Refused (refusal.Cycle x)) means = absurd means
wrong_means netlist schedule map (unread.Refused (refusal.Groups x)) means = absurd means
wrong_means netlist schedule map (unread.Refused (refusal.Board x)) means = absurd means
wrong_means netlist schedule map (unread.Refused (refusal.Schedule x)) means = absurd means
wrong_means netlist schedule map (unread.Refused (refusal.Map x)) means = absurd means
wrong_means netlist schedule map (unread.Refused (refusal.Opening x)) means = absurd means
wrong_means netlist schedule map (unread.Refused (refusal.Events x)) means = absurd means
wrong_means netlist schedule map unread.NoMemory means = tt

-- a netlist without tokens is refused by its first fault
lex_results : (netlist schedule map : List ℕ) (fault : LexFault) → reading.Reads netlist true 0 (Err fault) → ResultsMean netlist schedule map (Err (netlist_lex_refusal fault))
lex_results netlist schedule map (lex.BadByte at) reads = reads
lex_results netlist schedule map (lex.OpenComment at) reads = reads
lex_results netlist schedule map (lex.OpenAttribute at) reads = reads
lex_results netlist schedule map (lex.BadNumber at) reads = reads
lex_results netlist schedule map (lex.UnknownDigit at) reads = reads
lex_results netlist schedule map (lex.Directive at) reads = reads
lex_results netlist schedule map lex.NoMemory reads = tt

-- what the reader of results tells is the fault of the texts
pub results_mean : (netlist schedule map : List ℕ) (fault : ResultFault) (why : Unread) → ResultAnswers netlist schedule map (Err fault) → IsResultRefusal netlist fault why → ResultsMean netlist schedule map (Err why)
results_mean netlist schedule map (told.NetlistLex fault) why answers is = subst (λ w. ResultsMean netlist schedule map (Err w)) (sym is) (lex_results netlist schedule map fault answers)
results_mean netlist schedule map (told.NetlistForm token) why answers is = wrong_means netlist schedule map why is
results_mean netlist schedule map (told.NetlistShape chip net) why answers is = subst (λ w. ResultsMean netlist schedule map (Err w)) (sym is) answers
results_mean netlist schedule map told.ScheduleNotJson why answers is = subst (λ w. ResultsMean netlist schedule map (Err w)) (sym is) answers
results_mean netlist schedule map told.ScheduleVersion why answers is = subst (λ w. ResultsMean netlist schedule map (Err w)) (sym is) answers
results_mean netlist schedule map (told.ScheduleForm frame slot action) why answers is = subst (λ w. ResultsMean netlist schedule map (Err w)) (sym is) answers
results_mean netlist schedule map told.MapNotJson why answers is =
    subst (λ w. ResultsMean netlist schedule map (Err w)) (sym is) (answers.schedule_is, record { net = answers.net; net_is = answers.net_is; fails = answers.fails })
results_mean netlist schedule map told.MapVersion why answers is =
    subst (λ w. ResultsMean netlist schedule map (Err w)) (sym is) (answers.schedule_is, record { net = answers.net; net_is = answers.net_is; fails = answers.fails })
results_mean netlist schedule map (told.MapForm entry) why answers is =
    subst (λ w. ResultsMean netlist schedule map (Err w)) (sym is) (answers.schedule_is, record { net = answers.net; net_is = answers.net_is; fails = answers.fails })
results_mean netlist schedule map told.NoMemory why answers is = subst (λ w. ResultsMean netlist schedule map (Err w)) (sym is) tt
