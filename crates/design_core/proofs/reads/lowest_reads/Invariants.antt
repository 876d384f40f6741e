-- The nets that are left decide with what is found so far.
use Rattle.std.proofs.Common.{◌≡◌, drop}
use Rattle.std.specs.List.{flat_map}
use Rattle.design_core.specs.Design.{read_reads}
use Rattle.design_core.specs.Reads.{lowest}
use Rattle.design_core.proofs.reads.lowest_reads.Given as goal

abbrev pub invariant-ports : goal.invariant-ports
invariant-ports l = lowest l.table l.found (flat_map read_reads (drop l.port-index l.ports)) ≡ lowest l.table l.initial.found (flat_map read_reads l.ports)
