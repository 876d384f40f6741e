-- The chips are taken in order.
use Rattle.std.proofs.Common.{[], ◌∷◌, ap, subst, arith, refl, ℕ}
use Rattle.std.specs.Prelude.{None}
use Rattle.std.proofs.lemmas.Option.{slice_get_past}
use Rattle.id_arena.specs.declared.keys.ChipId.{ChipId}
use Rattle.emu_machine.specs.Acceptance.{FailsA7}
use Rattle.use_check.specs.Least.{IsLeastUnder}
use Rattle.shape_check.proofs.Parts.{longer, no_parts}
use Rattle.use_check.proofs.Walk.{least_found, least_none, more, nowhere}
use Rattle.shape_check.proofs.fitting.find_a7.Goals as goal

pub returns-in-Some : goal.returns-in-Some
returns-in-Some c =
    least_found (FailsA7 c.args.case.now) (longer c.args.case.now 0 (omega arith)) c.each.k c.find_in_chip.result _ c.each.invariant
    (subst (λ (k : ℕ). IsLeastUnder (FailsA7 c.args.case.now) (k ∷ []) c.find_in_chip.result) (ap (λ (x : ChipId). x.place) c.of.ensures) c.find_in_chip.ensures)
    c.in-Some.is

pub each-preserved : goal.each-preserved
each-preserved c =
    more (FailsA7 c.args.case.now) [] c.each.k _ c.each.invariant
    (subst (λ (k : ℕ). IsLeastUnder (FailsA7 c.args.case.now) (k ∷ []) None) (ap (λ (x : ChipId). x.place) c.of.ensures) c.in_default.ensures)
    refl

pub returns : goal.returns
returns c =
    least_none (FailsA7 c.args.case.now)
    (nowhere (FailsA7 c.args.case.now) [] (longer c.args.case.now 0 (omega arith)) c.each.k c.each.invariant
    (λ k high. no_parts c.args.case.now k (slice_get_past c.args.case.now.results.net k (omega (arith, high, c.each-test.false, c.modules-k-end.ensures)))))
