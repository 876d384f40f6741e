use Rattle.std.proofs.Common.{◌≡◌, ◌∙◌, ◌<◌, Some, Err, slice_get, length, sym, ap, arith, rules}
use Rattle.std.proofs.lemmas.Option.{slice_get-get_or}
use Rattle.domain_groups.specs.Openings.{led_to, plain_word, word_fault}
use Rattle.event_replay.specs.Opened.{plain_word_of}
use Rattle.event_replay.proofs.Sifting.{given_more, sound_more, stops}
use Rattle.event_replay.proofs.opening.judged_words.Goals as goal

pub returns-in_err-word : goal.returns-in_err-word
returns-in_err-word c =
    let within : c.given.entry-index < length c.args.given.now = omega arith in
    let at : slice_get c.args.given.now c.given.entry-index ≡ Some c.entry-item.result = slice_get-get_or c.args.given.now c.given.entry-index c.entry-item.result within ∙ ap Some (sym c.entry-item.is) in
    let same : c.from_residual.result ≡ Err c.in_err-word.field-0.0 = search rules in
    stops (word_fault c.args.design.now (led_to c.args.memories.now)) _ c.args.given.now c.given.entry-index c.entry-item.result c.in_err-word.field-0.0 c.from_residual.result at c.given.invariant.sound same c.in_err-word.ensures

pub given-preserved : goal.given-preserved
given-preserved c =
    let within : c.given.entry-index < length c.args.given.now = omega arith in
    let at : slice_get c.args.given.now c.given.entry-index ≡ Some c.entry-item.result = slice_get-get_or c.args.given.now c.given.entry-index c.entry-item.result within ∙ ap Some (sym c.entry-item.is) in
    let good = c.in_ok-word.ensures in
    record {
      sound = sound_more (word_fault c.args.design.now (led_to c.args.memories.now)) c.args.given.now c.given.entry-index c.entry-item.result at c.given.invariant.sound good.0;
      gives = given_more (plain_word (led_to c.args.memories.now)) plain_word_of c.args.given.now c.given.entry-index c.entry-item.result c.in_ok-word.word c.given.words c.push.new.self at c.given.invariant.gives good.1 (search rules);
    }
