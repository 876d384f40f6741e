-- The registers are taken in order.
use Rattle.std.proofs.Common.{◌≡◌, ◌≤◌, ◌∙◌, [], ◌∷◌, sym, length, subst, arith, refl, List, ℕ, ap}
use Rattle.std.specs.Prelude.{Some, None}
use Rattle.id_arena.specs.declared.keys.RegId.{RegId}
use Rattle.emu_machine.specs.declared.netlist.EmuRegister.{EmuRegister}
use Rattle.emu_machine.specs.declared.place.Place.TheVariants as place
use Rattle.shape_check.specs.Ends.{EndFails}
use Rattle.use_check.specs.Least.{IsLeastUnder}
use Rattle.use_check.proofs.Walk.{found, more, nowhere}
use Rattle.shape_check.proofs.Finishing.{longer, register_fails, register_passes, past_registers}
use Rattle.shape_check.proofs.ends.find_register.Goals as goal

pub returns-then-not-register_ends : goal.returns-then-not-register_ends
returns-then-not-register_ends c =
    let same : c.of-register.result.place ≡ c.each.k = ap (λ (x : RegId). x.place) c.of-register.ensures in
    subst (λ (f : ℕ). IsLeastUnder (EndFails c.args.end.now) (c.args.end.now.frame ∷ c.args.chip.place ∷ 0 ∷ []) (Some (place.EndRegister f c.args.chip c.of-register.result))) (sym c.frame.ensures.is)
    (found (EndFails c.args.end.now) (c.args.end.now.frame ∷ c.args.chip.place ∷ 0 ∷ []) (longer c.args.end.now 3 (omega arith)) c.each.k (place.EndRegister c.args.end.now.frame c.args.chip c.of-register.result) c.each.invariant
    (subst (λ (k : ℕ). IsLeastUnder (EndFails c.args.end.now) (c.args.end.now.frame ∷ c.args.chip.place ∷ 0 ∷ k ∷ []) (Some (place.EndRegister c.args.end.now.frame c.args.chip c.of-register.result))) same
    (register_fails c.args.end.now c.frame.ensures.there c.args.chip c.of-register.result (sym c.register_ends.ensures ∙ c.if-not-register_ends.true))))

pub each-preserved : goal.each-preserved
each-preserved c =
    let same : c.of-register.result.place ≡ c.each.k = ap (λ (x : RegId). x.place) c.of-register.ensures in
    more (EndFails c.args.end.now) (c.args.end.now.frame ∷ c.args.chip.place ∷ 0 ∷ []) c.each.k _ c.each.invariant
    (subst (λ (k : ℕ). IsLeastUnder (EndFails c.args.end.now) (c.args.end.now.frame ∷ c.args.chip.place ∷ 0 ∷ k ∷ []) None) same
    (register_passes c.args.end.now c.args.chip.place c.of-register.result.place (sym c.register_ends.ensures ∙ c.if-not-register_ends.false)))
    refl

pub returns : goal.returns
returns c =
    nowhere (EndFails c.args.end.now) (c.args.end.now.frame ∷ c.args.chip.place ∷ 0 ∷ []) (longer c.args.end.now 3 (omega arith)) c.each.k c.each.invariant
    (λ j high. past_registers c.args.end.now c.args.chip.place j (subst (λ (xs : List EmuRegister). length xs ≤ j) c.requires.registers (omega (arith, high, c.each-test.false))))
