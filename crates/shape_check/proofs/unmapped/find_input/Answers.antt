-- The nets are taken in order.
use Rattle.std.proofs.Common.{◌≤◌, ◌∙◌, [], ◌∷◌, sym, ap, subst, arith, refl, ℕ}
use Rattle.std.specs.Prelude.{None, Some}
use Rattle.id_arena.specs.declared.keys.NetId.{NetId}
use Rattle.design_core.specs.declared.parts.Parts.{Parts}
use Rattle.design_core.specs.Design.{net_count}
use Rattle.emu_machine.specs.declared.place.Place.TheVariants as place
use Rattle.emu_machine.specs.Acceptance.{FailsA9}
use Rattle.use_check.specs.Least.{IsLeastUnder}
use Rattle.shape_check.proofs.Lost.{longer, lost, not_lost, past_nets}
use Rattle.use_check.proofs.Walk.{found, more, nowhere}
use Rattle.shape_check.proofs.unmapped.find_input.Goals as goal

pub returns-then-is_lost : goal.returns-then-is_lost
returns-then-is_lost c =
    found (FailsA9 c.args.case.now) (0 ∷ []) (longer c.args.case.now 1 (omega arith)) c.each.n (place.Input c.of-net.result) c.each.invariant
    (subst (λ (k : ℕ). IsLeastUnder (FailsA9 c.args.case.now) (0 ∷ k ∷ []) (Some (place.Input c.of-net.result))) (ap (λ (x : NetId). x.place) c.of-net.ensures)
    (lost c.args.case.now c.of-net.result (sym c.is_lost.ensures ∙ c.if-is_lost.true)))

pub each-preserved : goal.each-preserved
each-preserved c =
    more (FailsA9 c.args.case.now) (0 ∷ []) c.each.n _ c.each.invariant
    (subst (λ (k : ℕ). IsLeastUnder (FailsA9 c.args.case.now) (0 ∷ k ∷ []) None) (ap (λ (x : NetId). x.place) c.of-net.ensures)
    (not_lost c.args.case.now c.of-net.result (sym c.is_lost.ensures ∙ c.if-is_lost.false)))
    refl

pub returns : goal.returns
returns c =
    nowhere (FailsA9 c.args.case.now) (0 ∷ []) (longer c.args.case.now 1 (omega arith)) c.each.n c.each.invariant
    (λ k high. past_nets c.args.case.now k c.stands.ensures.design
    (subst (λ (p : Parts). net_count p ≤ k) c.design.ensures (omega (arith, high, c.each-test.false, c.nets-n-end.ensures.count))))
