use Rattle.std.proofs.Common.{◌≡◌, ◌∙◌, Some, sym, ap}
use Rattle.std.proofs.lemmas.Bool.{both_ways}
use Rattle.domain_groups.specs.declared.openings.OpeningFault.TheVariants.{BadValue}
use Rattle.event_replay.proofs.Valued.{value_bad, value_sound}
use Rattle.event_replay.proofs.opening.check_value.Goals as goal

pub returns-then-is_value : goal.returns-then-is_value
returns-then-is_value c =
    let value = c.is_value.ensures.0 c.if-is_value.true in
    (value_sound c.args.name.now c.args.digits.now c.args.width value, (value.hex, value.fits))

pub returns : goal.returns
returns c =
    value_bad c.args.name.now c.args.digits.now c.args.width (λ value. both_ways _ c.if-is_value.false (c.is_value.ensures.1 value))
    ∙ ap (λ n. Some (BadValue n)) (sym c.in_ok-name.ensures)
