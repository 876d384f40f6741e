-- The chips are taken in order.
use Rattle.std.proofs.Common.{[], ◌∷◌, ap, subst, arith, refl, ℕ}
use Rattle.std.specs.Prelude.{None, Some}
use Rattle.id_arena.specs.declared.keys.ChipId.{ChipId}
use Rattle.emu_machine.specs.declared.place.Place.TheVariants as place
use Rattle.emu_machine.specs.Acceptance.{FailsA3}
use Rattle.use_check.specs.Least.{IsLeastUnder}
use Rattle.shape_check.proofs.Weighing.{light, no_room, some_long, too_heavy}
use Rattle.use_check.proofs.Walk.{least_found, least_none, more, nowhere}
use Rattle.shape_check.proofs.weights.find_a3.Goals as goal

pub each-preserved : goal.each-preserved
each-preserved c =
    more (FailsA3 c.args.case.now) [] c.each.k _ c.each.invariant
    (subst (λ (k : ℕ). IsLeastUnder (FailsA3 c.args.case.now) (k ∷ []) None) (ap (λ (x : ChipId). x.place) c.of-chip.ensures)
    (light c.args.case.now c.of-chip.result.place c.room.result c.chip_weight-weight.result c.room.ensures c.chip_weight-weight.ensures c.if-room-weight.false))
    refl

pub returns-then-room-weight : goal.returns-then-room-weight
returns-then-room-weight c =
    least_found (FailsA3 c.args.case.now) (some_long c.args.case.now) c.each.k (Some (place.Weight c.of-chip.result c.chip_weight-weight.result)) (place.Weight c.of-chip.result c.chip_weight-weight.result) c.each.invariant
    (subst (λ (k : ℕ). IsLeastUnder (FailsA3 c.args.case.now) (k ∷ []) (Some (place.Weight c.of-chip.result c.chip_weight-weight.result))) (ap (λ (x : ChipId). x.place) c.of-chip.ensures)
    (too_heavy c.args.case.now c.of-chip.result c.room.result c.chip_weight-weight.result c.room.ensures c.chip_weight-weight.ensures c.if-room-weight.true))
    refl

pub returns : goal.returns
returns c =
    least_none (FailsA3 c.args.case.now)
    (nowhere (FailsA3 c.args.case.now) [] (some_long c.args.case.now) c.each.k c.each.invariant
    (λ k high. no_room c.args.case.now k (omega (arith, high, c.each-test.false, c.chips-chips.ensures.is))))
