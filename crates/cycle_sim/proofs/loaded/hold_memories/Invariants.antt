-- The first of them have the values of what they stand for.
use Rattle.std.proofs.Common.{take}
use Rattle.std.specs.Prelude.{zip}
use Rattle.std.specs.List.{list_any}
use Rattle.cycle_sim.specs.Loading.{Gains, kept_by_memory}
use Rattle.cycle_sim.proofs.loaded.hold_memories.Given as goal

abbrev pub invariant-memories : goal.invariant-memories
invariant-memories l = Gains (λ n. list_any (kept_by_memory n) (take l.m (zip l.chip.memories l.entry.memories))) l.entry l.values l.initial.held l.held
