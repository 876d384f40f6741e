-- The chips are taken in order.
use Rattle.std.proofs.Common.{[], ◌∷◌, ap, subst, arith, refl, ℕ, ◌≡◌, length}
use Rattle.std.specs.Prelude.{None}
use Rattle.std.proofs.lemmas.Option.{slice_get_past}
use Rattle.id_arena.specs.declared.keys.ChipId.{ChipId}
use Rattle.emu_machine.specs.Acceptance.{Case}
use Rattle.shape_check.specs.Ends.{EndFails}
use Rattle.use_check.specs.Least.{IsLeastUnder}
use Rattle.use_check.proofs.Walk.{found_in, more, nowhere}
use Rattle.shape_check.proofs.Finishing.{longer, no_parts}
use Rattle.shape_check.proofs.ends.find_at_end.Goals as goal

pub returns-in-Some : goal.returns-in-Some
returns-in-Some c =
    found_in (EndFails c.args.end.now) (c.args.end.now.frame ∷ []) (longer c.args.end.now 1 (omega arith)) c.each.k c.find_in_chip.result _ c.each.invariant
    (subst (λ (k : ℕ). IsLeastUnder (EndFails c.args.end.now) (c.args.end.now.frame ∷ k ∷ []) c.find_in_chip.result) (ap (λ (x : ChipId). x.place) c.of.ensures) c.find_in_chip.ensures)
    c.in-Some.is

pub each-preserved : goal.each-preserved
each-preserved c =
    more (EndFails c.args.end.now) (c.args.end.now.frame ∷ []) c.each.k _ c.each.invariant
    (subst (λ (k : ℕ). IsLeastUnder (EndFails c.args.end.now) (c.args.end.now.frame ∷ k ∷ []) None) (ap (λ (x : ChipId). x.place) c.of.ensures) c.in_default.ensures)
    refl

pub returns : goal.returns
returns c =
    let count : length c.case-case.result.now.results.net ≡ length c.args.end.now.judged.results.net = ap (λ (x : Case). length x.results.net) c.case-case.ensures in
    nowhere (EndFails c.args.end.now) (c.args.end.now.frame ∷ []) (longer c.args.end.now 1 (omega arith)) c.each.k c.each.invariant
    (λ k high. no_parts c.args.end.now k (slice_get_past c.args.end.now.judged.results.net k (omega (arith, high, c.each-test.false, c.modules-k-end.ensures, count))))
