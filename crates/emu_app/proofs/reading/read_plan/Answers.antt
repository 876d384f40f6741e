use Rattle.std.proofs.Common.{rules, ◌≡◌, Err, subst, sym}
use Rattle.case_texts.specs.declared.what.What.TheVariants.{Board, Netlist, Schedule, Map}
use Rattle.case_texts.specs.Forms.{SaysBoard}
use Rattle.case_texts.specs.Reading.{BoardMeans}
use Rattle.case_texts.specs.Results.{ResultsMean}
use Rattle.emu_app.specs.Fetching.{texts_of}
use Rattle.emu_app.specs.Reading.{AllMean, PlanSays}
use Rattle.emu_app.proofs.FirstUnread.{refused_board, refused_results}
use Rattle.emu_app.proofs.reading.read_plan.Goals as goal

pub returns-in_err-board : goal.returns-in_err-board
returns-in_err-board c =
    let same : c.from_residual.result ≡ Err c.in_err-board.field-0.0 = search rules in
    let texts : _ = texts_of c.args.command c.args.texts.now in
    let means : BoardMeans (texts Board) (Err c.in_err-board.field-0.0) =
    subst (λ bytes. BoardMeans bytes (Err c.in_err-board.field-0.0)) c.text_at.ensures c.in_err-board.ensures in
    subst (AllMean c.args.command c.args.top.now texts (PlanSays texts)) (sym same)
    (refused_board c.faulty_texts_are_unread.ensures c.args.command c.args.top.now texts (PlanSays texts) c.in_err-board.field-0.0 means c.requires.board c.requires.before)

pub returns-in_err-results : goal.returns-in_err-results
returns-in_err-results c =
    let same : c.from_residual-in_err-results.result ≡ Err c.in_err-results.field-0.0 = search rules in
    let texts : _ = texts_of c.args.command c.args.texts.now in
    let board : SaysBoard (texts Board) c.in_ok-board.board = subst (λ bytes. SaysBoard bytes c.in_ok-board.board) c.text_at.ensures c.in_ok-board.ensures in
    let means : ResultsMean (texts Netlist) (texts Schedule) (texts Map) (Err c.in_err-results.field-0.0) =
    subst (λ bytes. ResultsMean bytes (texts Schedule) (texts Map) (Err c.in_err-results.field-0.0)) c.text_at-2.ensures
    (subst (λ bytes. ResultsMean c.text_at-2.result.now bytes (texts Map) (Err c.in_err-results.field-0.0)) c.text_at-3.ensures
    (subst (λ bytes. ResultsMean c.text_at-2.result.now c.text_at-3.result.now bytes (Err c.in_err-results.field-0.0)) c.text_at-4.ensures c.in_err-results.ensures)) in
    subst (AllMean c.args.command c.args.top.now texts (PlanSays texts)) (sym same)
    (refused_results c.faulty_texts_are_unread.ensures c.args.command c.args.top.now texts (PlanSays texts) c.in_ok-board.board c.in_err-results.field-0.0 means
    c.requires.netlist c.requires.schedule c.requires.map board c.requires.before)
