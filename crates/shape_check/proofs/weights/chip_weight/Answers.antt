-- Gates and memories of a netlist are within their limits.
use Rattle.std.proofs.Common.{◌≡◌, ap, List, subst}
use Rattle.std.specs.Prelude.{option_copied, Some, slice_get}
use Rattle.emu_machine.specs.declared.netlist.EmuGate.{EmuGate}
use Rattle.emu_machine.specs.declared.netlist.EmuMemory.{EmuMemory}
use Rattle.shape_check.proofs.Weighing.{gates_small, memories_small}
use Rattle.shape_check.proofs.weights.chip_weight.Goals as goal

pub gates_weight-requires-clause-inputs : goal.gates_weight-requires-clause-inputs
gates_weight-requires-clause-inputs c k gate at =
    gates_small c.args.case.now.results.net c.args.chip.place _ c.in-Some.found.now c.stands.ensures.netlist c.chip.ensures (ap option_copied c.in-Some.is) k gate
    (subst (λ (gs : List EmuGate). slice_get gs k ≡ Some gate) c.as_slice.ensures at)

pub memories_weight-requires-clause-small : goal.memories_weight-requires-clause-small
memories_weight-requires-clause-small c k memory at =
    memories_small c.args.case.now.results.net c.args.chip.place _ c.in-Some.found.now c.stands.ensures.netlist c.chip.ensures (ap option_copied c.in-Some.is) k memory
    (subst (λ (ms : List EmuMemory). slice_get ms k ≡ Some memory) c.as_slice-in-Some.ensures at)
