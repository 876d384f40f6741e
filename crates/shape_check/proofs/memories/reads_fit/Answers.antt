-- Ports are taken one by one.
use Rattle.std.proofs.Common.{sym, ◌∙◌, ◌<◌, arith, length, ℕ}
use Rattle.design_core.specs.declared.element.ReadPort.{ReadPort}
use Rattle.emu_machine.specs.declared.netlist.EmuRead.{EmuRead}
use Rattle.emu_machine.specs.Origins.{read_fits}
use Rattle.shape_check.proofs.Subjects.{goes_on, next_pair, stops}
use Rattle.shape_check.proofs.memories.reads_fit.Goals as goal

pub returns-then-not-read_fits : goal.returns-then-not-read_fits
returns-then-not-read_fits c =
    let less : c.each.k < length c.args.design.now = omega (arith, c.requires.same, c.each-test.true) in
    stops _ _ _ _ c.each.invariant
    (next_pair (λ (j : ℕ) (w : ReadPort) (p : EmuRead). read_fits c.args.case.now.results c.args.chip.place c.args.entry.now j w p) c.args.design.now c.args.ports.now c.each.k c.index-design-k.result c.index-ports-k.result less c.each-test.true c.index-design-k.is c.index-ports-k.is)
    (sym c.read_fits.ensures ∙ c.if-not-read_fits.true)

pub each-preserved : goal.each-preserved
each-preserved c =
    let less : c.each.k < length c.args.design.now = omega (arith, c.requires.same, c.each-test.true) in
    goes_on _ _ _ _ c.each.invariant
    (next_pair (λ (j : ℕ) (w : ReadPort) (p : EmuRead). read_fits c.args.case.now.results c.args.chip.place c.args.entry.now j w p) c.args.design.now c.args.ports.now c.each.k c.index-design-k.result c.index-ports-k.result less c.each-test.true c.index-design-k.is c.index-ports-k.is)
    (sym c.read_fits.ensures ∙ c.if-not-read_fits.false)
