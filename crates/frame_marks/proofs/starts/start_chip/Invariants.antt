-- The first nets that no gate drives have started.
use Rattle.std.proofs.Common.{◌≡◌, List}
use Rattle.chip_pass.specs.Chips.{ChipOthersWait}
use Rattle.emu_machine.specs.declared.netlist.EmuGate.{EmuGate}
use Rattle.emu_machine.specs.Marks.{Mark, no_mark}
use Rattle.emu_machine.specs.Netlist.{chip_at}
use Rattle.frame_marks.specs.Starts.{NetsHaveStarted}
use Rattle.frame_marks.proofs.starts.start_chip.Given as goal

abbrev pub invariant-nets : goal.invariant-nets
invariant-nets g l = record {
  chip : l.pass.chip ≡ chip_at l.plan.results.now.net l.chip.place;
  others : (gives : EmuGate → List Mark → Mark) → ChipOthersWait gives no_mark l.pass;
  started : NetsHaveStarted l.plan.results.now (g.I.Inside.inside l.inside) l.chip.place l.n l.pass;
}
