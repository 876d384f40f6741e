-- The registers are taken in order.
use Rattle.std.proofs.Common.{◌≡◌, ◌≤◌, ◌∙◌, [], ◌∷◌, sym, length, subst, arith, refl, List, ℕ, ◌<◌, get_or, ap}
use Rattle.std.specs.Prelude.{Some, slice_get}
use Rattle.std.proofs.lemmas.Option.{slice_get-get_or}
use Rattle.id_arena.specs.declared.keys.RegId.{RegId}
use Rattle.emu_machine.specs.declared.netlist.EmuRegister.{EmuRegister}
use Rattle.emu_machine.specs.declared.place.Place.TheVariants as place
use Rattle.emu_machine.specs.Acceptance.{FailsA7}
use Rattle.use_check.specs.Least.{IsLeastUnder}
use Rattle.shape_check.proofs.Parts.{register_fails, register_passes, longer, past_registers}
use Rattle.use_check.proofs.Walk.{found, more, nowhere}
use Rattle.shape_check.proofs.fitting.find_register.Goals as goal

element : (xs ys : List EmuRegister) (k : ℕ) (d : EmuRegister) → xs ≡ ys → k < length xs → slice_get ys k ≡ Some (get_or xs k d)
element xs ys k d same low = subst (λ (zs : List EmuRegister). slice_get zs k ≡ Some (get_or xs k d)) same (slice_get-get_or xs k d low)

element_at : (xs ys : List EmuRegister) (k j : ℕ) (d : EmuRegister) → xs ≡ ys → k < length xs → j ≡ k → slice_get ys j ≡ Some (get_or xs k d)
element_at xs ys k j d same low is = subst (λ (i : ℕ). slice_get ys i ≡ Some (get_or xs k d)) (sym is) (element xs ys k d same low)

pub returns-then-not-register_fits : goal.returns-then-not-register_fits
returns-then-not-register_fits c =
    let same : c.of.result.place ≡ c.each.k = ap (λ (x : RegId). x.place) c.of.ensures in
    found (FailsA7 c.args.case.now) (c.args.chip.place ∷ 1 ∷ []) (longer c.args.case.now 2 (omega arith)) c.each.k (place.Register c.args.chip c.of.result) c.each.invariant
    (subst (λ (k : ℕ). IsLeastUnder (FailsA7 c.args.case.now) (c.args.chip.place ∷ 1 ∷ k ∷ []) (Some (place.Register c.args.chip c.of.result))) same
    (register_fails c.args.case.now c.args.chip c.of.result _
    (element_at c.args.registers.now _ c.each.k c.of.result.place _ c.requires.registers c.each-test.true same)
    (sym c.register_fits.ensures ∙ c.if-not-register_fits.true)))

pub each-preserved : goal.each-preserved
each-preserved c =
    more (FailsA7 c.args.case.now) (c.args.chip.place ∷ 1 ∷ []) c.each.k _ c.each.invariant
    (register_passes c.args.case.now c.args.chip.place c.each.k _
    (element c.args.registers.now _ c.each.k _ c.requires.registers c.each-test.true)
    (sym c.register_fits.ensures ∙ c.if-not-register_fits.false))
    refl

pub returns : goal.returns
returns c =
    nowhere (FailsA7 c.args.case.now) (c.args.chip.place ∷ 1 ∷ []) (longer c.args.case.now 2 (omega arith)) c.each.k c.each.invariant
    (λ j high. past_registers c.args.case.now c.args.chip.place j (subst (λ (xs : List EmuRegister). length xs ≤ j) c.requires.registers (omega (arith, high, c.each-test.false))))
