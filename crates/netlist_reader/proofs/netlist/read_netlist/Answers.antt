use Rattle.std.proofs.Common.{◌<◌, ◌^◌, length, subst, sym, ◌∙◌}
use Rattle.std.proofs.lemmas.List.{length-map}
use Rattle.token_words.specs.Words.{word_of, words_of}
use Rattle.netlist_reader.specs.Faults.{SaysLoosely}
use Rattle.netlist_reader.proofs.Chips.{wrong_at}
use Rattle.netlist_reader.proofs.Netless.{begins_whole, earlier_wrong, lacking_wrong, strict}
use Rattle.netlist_reader.proofs.Sizes.{are_chips}
use Rattle.netlist_reader.proofs.netlist.read_netlist.Goals as goal

pub returns-in-None-clause-reading : goal.returns-in-None-clause-reading
returns-in-None-clause-reading c = strict (words_of c.args.source.now c.args.tokens.now) _ c.in-None.ensures (subst (λ ws. SaysLoosely ws c.in-Ok.chips) c.new-rest.ensures.words c.in-Ok.ensures)

pub returns-in-None-clause-chips : goal.returns-in-None-clause-chips
returns-in-None-clause-chips c = are_chips (words_of c.args.source.now c.args.tokens.now) _ (subst (λ ws. length ws < 2 ^ 32) c.new-rest.ensures.words c.new-rest.ensures.few) (strict (words_of c.args.source.now c.args.tokens.now) _ c.in-None.ensures (subst (λ ws. SaysLoosely ws c.in-Ok.chips) c.new-rest.ensures.words c.in-Ok.ensures))

pub returns-in-Some-clause-reading : goal.returns-in-Some-clause-reading
returns-in-Some-clause-reading c = lacking_wrong (words_of c.args.source.now c.args.tokens.now) c.in-Some.token c.in-Some.ensures (begins_whole (words_of c.args.source.now c.args.tokens.now) c.in-Ok.chips c.in-Some.token (subst (λ ws. SaysLoosely ws c.in-Ok.chips) c.new-rest.ensures.words c.in-Ok.ensures))

pub returns-in-Err-Stuck-clause-reading : goal.returns-in-Err-Stuck-clause-reading
returns-in-Err-Stuck-clause-reading c =
    earlier_wrong (words_of c.args.source.now c.args.tokens.now) _ _ _ c.lacking_net-lacking.ensures
    (wrong_at (words_of c.args.source.now c.args.tokens.now) _ _ _ _ c.new-rest.ensures.words (rw c.in-Err-Stuck.field-0-is at c.in-Err-Stuck.ensures)
    (c.len.ensures ∙ sym (length-map c.args.tokens.now (word_of c.args.source.now))) c.left.ensures)
    c.earlier.ensures
