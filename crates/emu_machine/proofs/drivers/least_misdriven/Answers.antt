use Rattle.std.proofs.Common.{◌∙◌}
use Rattle.emu_machine.proofs.Counted.{gates_below, registers_below, memories_below, tells}
use Rattle.emu_machine.proofs.drivers.least_misdriven.Goals as goal

pub count_gates-requires : goal.count_gates-requires
count_gates-requires c =
    gates_below _ _ _ c.requires c.as_slice.ensures (c.as_mut_slice-counts.ensures.len ∙ c.in_ok-drivers.ensures.len)

pub count_registers-requires : goal.count_registers-requires
count_registers-requires c =
    registers_below _ _ _ c.requires c.as_slice-2.ensures
    (c.count_gates.ensures.size ∙ c.as_mut_slice-counts.ensures.len ∙ c.in_ok-drivers.ensures.len)

pub count_memories-requires : goal.count_memories-requires
count_memories-requires c =
    memories_below _ _ _ c.requires c.as_slice-3.ensures
    (c.count_registers.ensures.size ∙ c.count_gates.ensures.size ∙ c.as_mut_slice-counts.ensures.len ∙ c.in_ok-drivers.ensures.len)

pub returns : goal.returns
returns c =
    tells _ _ _ _ _ _ _ _ c.as_slice.ensures c.as_slice-2.ensures c.as_slice-3.ensures
    (c.as_mut_slice-counts.ensures.value ∙ c.in_ok-drivers.ensures.items_if_clones_equal (λ y e. e))
    c.count_gates.ensures c.count_registers.ensures c.count_memories.ensures
    c.least_other.result c.least_other.ensures
