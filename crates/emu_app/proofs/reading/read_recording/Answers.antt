use Rattle.std.proofs.Common.{rules, ◌≡◌, Err, subst, sym}
use Rattle.case_texts.specs.declared.what.What.TheVariants.{Opening, Events}
use Rattle.emu_app.specs.Fetching.{texts_of}
use Rattle.emu_app.specs.Reading.{AllMean, EventsMean, OpeningMeans}
use Rattle.emu_app.specs.Runs.{RecordingSays, SaysOpening}
use Rattle.emu_app.proofs.FirstUnread.{refused_events, refused_opening, before_events}
use Rattle.emu_app.proofs.reading.read_recording.Goals as goal

pub returns-in_err-opening-clause-means : goal.returns-in_err-opening-clause-means
returns-in_err-opening-clause-means c =
    let same : c.from_residual.result ≡ Err c.in_err-opening.field-0.0 = search rules in
    let texts : _ = texts_of c.args.command c.args.texts.now in
    let means : OpeningMeans c.args.design.now (texts Opening) (Err c.in_err-opening.field-0.0) =
    subst (λ bytes. OpeningMeans c.args.design.now bytes (Err c.in_err-opening.field-0.0)) c.text_at.ensures c.in_err-opening.ensures.means in
    subst (AllMean c.args.command c.args.top.now texts (RecordingSays texts c.args.design.now)) (sym same)
    (refused_opening c.faulty_texts_are_unread.ensures c.args.command c.args.top.now texts (RecordingSays texts c.args.design.now)
    c.args.design.now c.in_err-opening.field-0.0 means c.requires.design c.requires.opening c.requires.before)

pub returns-in_err-events-clause-means : goal.returns-in_err-events-clause-means
returns-in_err-events-clause-means c =
    let same : c.from_residual-in_err-events.result ≡ Err c.in_err-events.field-0.0 = search rules in
    let texts : _ = texts_of c.args.command c.args.texts.now in
    let opening : SaysOpening c.args.design.now (texts Opening) c.in_ok-opening.opening =
    subst (λ bytes. SaysOpening c.args.design.now bytes c.in_ok-opening.opening) c.text_at.ensures c.in_ok-opening.ensures.means in
    let means : EventsMean c.args.groups.now c.args.design.now (texts Events) (Err c.in_err-events.field-0.0) =
    subst (λ bytes. EventsMean c.args.groups.now c.args.design.now bytes (Err c.in_err-events.field-0.0)) c.text_at-2.ensures c.in_err-events.ensures.means in
    subst (AllMean c.args.command c.args.top.now texts (RecordingSays texts c.args.design.now)) (sym same)
    (refused_events c.faulty_texts_are_unread.ensures c.args.command c.args.top.now texts (RecordingSays texts c.args.design.now)
    c.args.design.now c.args.groups.now c.in_err-events.field-0.0 means c.requires.design c.requires.groups c.requires.events
    (before_events c.args.command c.args.top.now texts c.args.design.now c.in_ok-opening.opening c.requires.design opening c.requires.before))
