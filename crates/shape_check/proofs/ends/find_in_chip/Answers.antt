-- A chip's registers and memories have numbers of 32 bits.
use Rattle.std.proofs.Common.{◌≡◌, ◌∙◌, length, sym, ap, arith}
use Rattle.std.specs.Prelude.{option_copied}
use Rattle.shape_check.proofs.ends.find_in_chip.Goals as goal

pub find_register-requires-clause-few : goal.find_register-requires-clause-few
find_register-requires-clause-few c =
    let few = (c.stands.ensures.netlist.formed.each c.args.chip.place c.in_ok-found.found.now (sym c.chip.ensures ∙ ap option_copied c.in_ok-found.was)).few_registers in
    let same : length c.as_slice.result.now ≡ length c.in_ok-found.found.now.registers = ap length c.as_slice.ensures in
    omega (arith, few, same)

pub find_memory-requires-clause-few : goal.find_memory-requires-clause-few
find_memory-requires-clause-few c =
    let few = (c.stands.ensures.netlist.formed.each c.args.chip.place c.in_ok-found.found.now (sym c.chip.ensures ∙ ap option_copied c.in_ok-found.was)).few_memories in
    let same : length c.as_slice-2.result.now ≡ length c.in_ok-found.found.now.memories = ap length c.as_slice-2.ensures in
    omega (arith, few, same)
