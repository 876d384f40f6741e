-- The chips are taken in order.
use Rattle.std.proofs.Common.{ap, subst, arith, refl, ℕ, sym}
use Rattle.id_arena.specs.declared.keys.ChipId.{ChipId}
use Rattle.emu_machine.specs.Netlist.{chip_at}
use Rattle.gate_cycles.specs.Gates.{IsLeastOnCycle}
use Rattle.shape_check.proofs.Turning.{NoneBefore, found, more, none_at_all}
use Rattle.shape_check.proofs.cycles.find_a2.Goals as goal

pub returns : goal.returns
returns c =
    none_at_all c.args.case.now c.each.k c.each.invariant
    (let e = c.modules-k-end.ensures in let f = c.each-test.false in omega (arith, e, f))

pub each-preserved : goal.each-preserved
each-preserved c =
    more c.args.case.now c.each.k _ c.in_ok-gate.field-0 c.each.invariant
    (subst (λ (k : ℕ). IsLeastOnCycle (chip_at c.args.case.now.results.net k) c.in_ok-gate.field-0) (ap (λ (x : ChipId). x.place) c.of-chip.ensures) c.in_ok-gate.ensures)
    c.in_default.is refl

pub returns-in-Some : goal.returns-in-Some
returns-in-Some c =
    found c.args.case.now c.of-chip.result c.in-Some.gate c.in_ok-gate.field-0
    (subst (λ (k : ℕ). NoneBefore c.args.case.now k) (sym (ap (λ (x : ChipId). x.place) c.of-chip.ensures)) c.each.invariant)
    c.in_ok-gate.ensures c.in-Some.is
