use Rattle.std.proofs.Common.{◌∙◌, ap, sym, slice_get}
use Rattle.emu_machine.specs.declared.map.StateMap.{StateMap}
use Rattle.cycle_sim.proofs.loaded.words_of.Goals as goal

pub chip_words-requires-clause-entry : goal.chip_words-requires-clause-entry
chip_words-requires-clause-entry c =
    c.requires.mapped.chips c.chips.c c.chip_of.result.now c.get.result.now c.chip_of.ensures
    (ap (λ (m : StateMap). slice_get m.chips c.chips.c) (sym c.map.ensures) ∙ c.get.ensures)
