-- The gates are taken in order.
use Rattle.std.proofs.Common.{◌≡◌, ◌≤◌, ◌∙◌, [], ◌∷◌, sym, length, subst, arith, refl, List, ℕ, ◌<◌, get_or}
use Rattle.std.specs.Prelude.{Some, slice_get}
use Rattle.std.proofs.lemmas.Option.{slice_get_read}
use Rattle.emu_machine.specs.declared.netlist.EmuGate.{EmuGate}
use Rattle.emu_machine.specs.declared.place.Place.TheVariants as place
use Rattle.emu_machine.specs.Acceptance.{FailsA7}
use Rattle.shape_check.proofs.Parts.{gate_fails, gate_passes, longer, past_gates}
use Rattle.use_check.proofs.Walk.{found, more, nowhere}
use Rattle.shape_check.proofs.fitting.find_gate.Goals as goal

element : (xs ys : List EmuGate) (k : ℕ) (x : EmuGate) → xs ≡ ys → k < length xs → x ≡ get_or xs k x → slice_get ys k ≡ Some x
element xs ys k x same low is = subst (λ (zs : List EmuGate). slice_get zs k ≡ Some x) same (slice_get_read xs (length xs) k x refl low is)

pub returns-then-not-gate_fits : goal.returns-then-not-gate_fits
returns-then-not-gate_fits c =
    found (FailsA7 c.args.case.now) (c.args.chip.place ∷ 0 ∷ []) (longer c.args.case.now 2 (omega arith)) c.each.k (place.Gate c.args.chip c.each.k) c.each.invariant
    (gate_fails c.args.case.now c.args.chip c.each.k c.index-gates-k.result
    (element c.args.gates.now _ c.each.k c.index-gates-k.result c.requires.gates c.each-test.true c.index-gates-k.is)
    (sym c.gate_fits.ensures ∙ c.if-not-gate_fits.true))

pub each-preserved : goal.each-preserved
each-preserved c =
    more (FailsA7 c.args.case.now) (c.args.chip.place ∷ 0 ∷ []) c.each.k _ c.each.invariant
    (gate_passes c.args.case.now c.args.chip.place c.each.k c.index-gates-k.result
    (element c.args.gates.now _ c.each.k c.index-gates-k.result c.requires.gates c.each-test.true c.index-gates-k.is)
    (sym c.gate_fits.ensures ∙ c.if-not-gate_fits.false))
    refl

pub returns : goal.returns
returns c =
    nowhere (FailsA7 c.args.case.now) (c.args.chip.place ∷ 0 ∷ []) (longer c.args.case.now 2 (omega arith)) c.each.k c.each.invariant
    (λ j high. past_gates c.args.case.now c.args.chip.place j (subst (λ (xs : List EmuGate). length xs ≤ j) c.requires.gates (omega (arith, high, c.each-test.false))))
