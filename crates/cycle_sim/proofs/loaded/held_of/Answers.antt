use Rattle.std.proofs.Common.{◌∙◌, ap, sym, slice_get}
use Rattle.emu_machine.specs.declared.map.StateMap.{StateMap}
use Rattle.cycle_sim.proofs.loaded.held_of.Goals as goal

pub chip_held-requires-clause-chip : goal.chip_held-requires-clause-chip
chip_held-requires-clause-chip c = c.requires.built.formed.each c.chips.c c.chip_of.result.now c.chip_of.ensures

pub chip_held-requires-clause-entry : goal.chip_held-requires-clause-entry
chip_held-requires-clause-entry c =
    c.requires.mapped.chips c.chips.c c.chip_of.result.now c.get.result.now c.chip_of.ensures
    (ap (λ (m : StateMap). slice_get m.chips c.chips.c) (sym c.map.ensures) ∙ c.get.ensures)
