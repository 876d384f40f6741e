-- The nets that are left decide with what is found so far.
use Rattle.std.proofs.Common.{◌≡◌, drop}
use Rattle.std.specs.List.{flat_map}
use Rattle.design_core.specs.Design.{memory_reads}
use Rattle.design_core.specs.Reads.{lowest}
use Rattle.design_core.proofs.reads.lowest_memories.Given as goal

abbrev pub invariant-memories : goal.invariant-memories
invariant-memories l = lowest l.table l.found (flat_map memory_reads (drop l.memory-index l.memories)) ≡ lowest l.table l.initial.found (flat_map memory_reads l.memories)
