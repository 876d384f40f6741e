use Rattle.std.proofs.Common.{◌≤◌, length, refl, subst, ap, arith}
use Rattle.emu_machine.specs.Counts.{TellsMisdriven}
use Rattle.emu_machine.proofs.Least.{driven_next, least_of_all, driven_all}
use Rattle.emu_machine.proofs.emu_net.EmuNet.build.Goals as goal

pub chips-init : goal.chips-init
chips-init c = λ chip net less low. absurd (omega (arith, less))

pub least_misdriven-requires : goal.least_misdriven-requires
least_misdriven-requires c = c.requires.each _ _ c.get.ensures

pub returns-in-Some : goal.returns-in-Some
returns-in-Some c =
    least_of_all _ _ _ _ _ c.get.ensures (subst (TellsMisdriven c.get.result.now) c.in-Some.is c.in_ok-net.ensures) c.chips.invariant (ap (λ k. k.place) c.of-chip.ensures)

pub chips-preserved : goal.chips-preserved
chips-preserved c =
    driven_next _ _ _ c.get.ensures (subst (TellsMisdriven c.get.result.now) c.in_default.is c.in_ok-net.ensures) c.chips.invariant

pub invariant_of-result : goal.invariant_of-result
invariant_of-result c =
    let all : length c.args.chips ≤ c.chips.place = omega (arith, c.len-place-end.ensures, c.chips-test.false) in
    record {
      formed = c.requires;
      netlist = driven_all _ _ all c.chips.invariant;
    }

pub returns : goal.returns
returns c =
    let all : length c.args.chips ≤ c.chips.place = omega (arith, c.len-place-end.ensures, c.chips-test.false) in
    (refl, driven_all _ _ all c.chips.invariant)
