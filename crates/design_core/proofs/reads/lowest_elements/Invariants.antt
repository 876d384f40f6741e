-- The nets that are left decide with what is found so far.
use Rattle.std.proofs.Common.{◌≡◌, drop}
use Rattle.std.specs.List.{flat_map}
use Rattle.design_core.specs.Design.{element_reads}
use Rattle.design_core.specs.Reads.{lowest}
use Rattle.design_core.proofs.reads.lowest_elements.Given as goal

abbrev pub invariant-elements : goal.invariant-elements
invariant-elements l = lowest l.table l.found (flat_map element_reads (drop l.element-index l.elements)) ≡ lowest l.table l.initial.found (flat_map element_reads l.elements)
