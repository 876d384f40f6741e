use Rattle.std.proofs.Common.{◌∙◌, ◌<◌, ◌∷◌, true, length, slice_set, refl, sym, ap, subst, rules, arith}
use Rattle.std.specs.List.{list_all}
use Rattle.std.proofs.lemmas.Bool.{and_parts}
use Rattle.domain_groups.specs.Lines.{has_equals, words}
use Rattle.domain_groups.specs.Settings.{Setting}
use Rattle.domain_groups.specs.Values.{hex_number}
use Rattle.event_replay.proofs.Told.{Setting-up, nothing_set, still_earlier, set_earlier, words_fail, word_taken, words_taken}
use Rattle.event_replay.proofs.events.read_settings.Goals as goal

pub words-init : goal.words-init
words-init c = record {
  up = λ g at. subst (Setting-up c.args.ports.now g (words c.args.text.now) (words c.args.text.now) c.args.last_lines.now c.args.number) (sym c.new-values.ensures)
      (nothing_set c.args.ports.now g (words c.args.text.now) c.args.last_lines.now c.args.number c.requires.earlier);
  equals = c.requires.equals;
  earlier = still_earlier c.args.ports.now c.args.last_lines.now c.args.number c.requires.earlier;
}

pub returns-in-Err-clause-means : goal.returns-in-Err-clause-means
returns-in-Err-clause-means c = λ g at.
    let u = subst (λ ws. Setting-up c.args.ports.now g (words c.args.text.now) ws c.words.last_lines c.args.number c.words.values) c.in-Some.ensures.words (c.words.invariant.up g at) in
    words_fail c.args.ports.now g (words c.args.text.now) (words c.in-Some.after.now) c.in-Some.word.now c.words.last_lines c.args.number c.words.values u c.in-Err.fault (c.in-Err.ensures.fails g at)

pub words-preserved : goal.words-preserved
words-preserved c =
    let s : Setting = record { port = c.in-Ok.setting.0; nets = c.in-Ok.setting.1.now; number = hex_number c.in-Ok.setting.2.now } in
    let inside : c.in-Ok.setting.0 < length c.words.last_lines = omega (arith, c.in-Ok.ensures.hex.1, c.words.invariant.earlier.size) in
    record {
      up = λ g at.
          let u = subst (λ ws. Setting-up c.args.ports.now g (words c.args.text.now) ws c.words.last_lines c.args.number c.words.values) c.in-Some.ensures.words (c.words.invariant.up g at) in
          word_taken c.args.ports.now g (words c.args.text.now) (words c.in-Some.after.now) c.in-Some.word.now c.words.last_lines c.args.number c.words.values u s
          (slice_set c.words.last_lines c.in-Ok.setting.0 c.args.number) c.push_bits.new.values (c.in-Ok.ensures.sets g at) c.in-Ok.ensures.first inside refl c.in_ok-push_bits.ensures;
      equals = (and_parts (has_equals c.in-Some.word.now) (list_all has_equals (words c.in-Some.after.now)) (sym (ap (list_all has_equals) c.in-Some.ensures.words) ∙ c.words.invariant.equals)).1;
      earlier = set_earlier c.args.ports.now c.words.last_lines (slice_set c.words.last_lines c.in-Ok.setting.0 c.args.number) c.args.number c.in-Ok.setting.0 c.words.invariant.earlier inside refl;
    }

pub returns-clause-means : goal.returns-clause-means
returns-clause-means c = λ g at.
    words_taken c.args.ports.now g (words c.args.text.now) c.words.last_lines c.args.number c.words.values
    (subst (λ ws. Setting-up c.args.ports.now g (words c.args.text.now) ws c.words.last_lines c.args.number c.words.values) c.in_default.ensures.words.0 (c.words.invariant.up g at))
