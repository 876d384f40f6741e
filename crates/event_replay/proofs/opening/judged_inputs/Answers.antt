use Rattle.std.proofs.Common.{◌≡◌, ◌∙◌, ◌<◌, Some, Err, slice_get, length, sym, ap, arith, rules}
use Rattle.std.proofs.lemmas.Option.{slice_get-get_or}
use Rattle.domain_groups.specs.Openings.{input_fault, input_values}
use Rattle.domain_groups.specs.Values.{hex_number, shown_bits}
use Rattle.event_replay.proofs.Sifting.{flat_more, sound_more, stops}
use Rattle.event_replay.proofs.opening.judged_inputs.Goals as goal

pub returns-in_err-nets : goal.returns-in_err-nets
returns-in_err-nets c =
    let within : c.given.value-index < length c.args.given.now = omega arith in
    let at : slice_get c.args.given.now c.given.value-index ≡ Some c.value-item.result = slice_get-get_or c.args.given.now c.given.value-index c.value-item.result within ∙ ap Some (sym c.value-item.is) in
    let same : c.from_residual.result ≡ Err c.in_err-nets.field-0.0 = search rules in
    stops (input_fault c.args.ports.now) _ c.args.given.now c.given.value-index c.value-item.result c.in_err-nets.field-0.0 c.from_residual.result at c.given.invariant.sound same c.in_err-nets.ensures

pub given-preserved : goal.given-preserved
given-preserved c =
    let within : c.given.value-index < length c.args.given.now = omega arith in
    let at : slice_get c.args.given.now c.given.value-index ≡ Some c.value-item.result = slice_get-get_or c.args.given.now c.given.value-index c.value-item.result within ∙ ap Some (sym c.value-item.is) in
    let good = c.in_ok-nets.ensures in
    let shown : input_values c.args.ports.now c.value-item.result ≡ shown_bits c.in_ok-nets.nets.now (hex_number c.value.inside.digits.now) =
    good.1.1 ∙ ap (λ v. shown_bits c.in_ok-nets.nets.now (hex_number v.digits)) (sym c.value.view_is) in
    record {
      sound = sound_more (input_fault c.args.ports.now) c.args.given.now c.given.value-index c.value-item.result at c.given.invariant.sound good.0;
      gives = flat_more (input_values c.args.ports.now) c.args.given.now c.given.value-index c.value-item.result c.given.values c.push_bits.new.values _ at c.given.invariant.gives shown c.in_ok-push_bits.ensures;
    }
