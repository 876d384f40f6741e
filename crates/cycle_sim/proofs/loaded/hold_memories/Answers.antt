use Rattle.std.proofs.Common.{◌≤◌, ℕ, length, zip, sym, subst, ◌∙◌, arith}
use Rattle.emu_machine.specs.Building.{IsMemoryOf}
use Rattle.cycle_sim.specs.Loading.{kept_by_memory}
use Rattle.facts.proofs.Places.{zip_at}
use Rattle.cycle_sim.proofs.Loads.{next_gains, all_gain, zip_short}
use Rattle.cycle_sim.proofs.loaded.hold_memories.Goals as goal

pub hold_ports-requires-clause-memory : goal.hold_ports-requires-clause-memory
hold_ports-requires-clause-memory c =
    subst (λ (nets : ℕ). IsMemoryOf nets c.get.result.now) (sym (c.memories.invariant.size ∙ c.requires.held)) (c.requires.chip.memories c.memories.m c.get.result.now c.get.ensures)

pub memories-preserved : goal.memories-preserved
memories-preserved c =
    next_gains c.args.entry.now c.args.values.now kept_by_memory (zip c.args.chip.now.memories c.args.entry.now.memories) c.memories.m (c.get.result.now, c.get-in-memories.result.now)
    (zip_at c.args.chip.now.memories c.args.entry.now.memories c.memories.m c.get.result.now c.get-in-memories.result.now c.get.ensures c.get-in-memories.ensures)
    c.args.held.now c.memories.held c.hold_ports.new.held c.memories.invariant c.hold_ports.ensures

pub returns : goal.returns
returns c =
    let short : length (zip c.args.chip.now.memories c.args.entry.now.memories) ≤ length c.args.chip.now.memories = zip_short c.args.chip.now.memories c.args.entry.now.memories in
    let whole : length (zip c.args.chip.now.memories c.args.entry.now.memories) ≤ c.memories.m = omega (arith, short, c.memories-test.false, c.memories.auto.m-end, c.len-m-end.ensures) in
    all_gain c.args.entry.now c.args.values.now kept_by_memory (zip c.args.chip.now.memories c.args.entry.now.memories) c.memories.m whole c.args.held.now c.memories.held c.memories.invariant
