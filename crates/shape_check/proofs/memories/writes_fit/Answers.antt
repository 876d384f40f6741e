-- Ports are taken one by one.
use Rattle.std.proofs.Common.{sym, ◌∙◌, ◌<◌, arith, length, ℕ}
use Rattle.design_core.specs.declared.element.WritePort.{WritePort}
use Rattle.emu_machine.specs.declared.netlist.EmuWrite.{EmuWrite}
use Rattle.emu_machine.specs.Origins.{write_fits}
use Rattle.shape_check.proofs.Subjects.{goes_on, next_pair, stops}
use Rattle.shape_check.proofs.memories.writes_fit.Goals as goal

pub returns-then-not-write_fits : goal.returns-then-not-write_fits
returns-then-not-write_fits c =
    let less : c.each.k < length c.args.design.now = omega (arith, c.requires.same, c.each-test.true) in
    stops _ _ _ _ c.each.invariant
    (next_pair (λ (j : ℕ) (w : WritePort) (p : EmuWrite). write_fits c.args.case.now.results c.args.chip.place c.args.of j w p) c.args.design.now c.args.ports.now c.each.k c.index-design-k.result c.index-ports-k.result less c.each-test.true c.index-design-k.is c.index-ports-k.is)
    (sym c.write_fits.ensures ∙ c.if-not-write_fits.true)

pub each-preserved : goal.each-preserved
each-preserved c =
    let less : c.each.k < length c.args.design.now = omega (arith, c.requires.same, c.each-test.true) in
    goes_on _ _ _ _ c.each.invariant
    (next_pair (λ (j : ℕ) (w : WritePort) (p : EmuWrite). write_fits c.args.case.now.results c.args.chip.place c.args.of j w p) c.args.design.now c.args.ports.now c.each.k c.index-design-k.result c.index-ports-k.result less c.each-test.true c.index-design-k.is c.index-ports-k.is)
    (sym c.write_fits.ensures ∙ c.if-not-write_fits.false)
