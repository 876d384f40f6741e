use Rattle.std.proofs.Common.{◌≡◌, ◌++◌, drop}
use Rattle.cell_parts.specs.CellGates.{comb_elements}
use Rattle.cell_parts.proofs.gates.push_comb.Given as goal

abbrev pub invariant-outputs : goal.invariant-outputs
invariant-outputs l =
    l.out ++ comb_elements l.wires l.inputs (drop l.output-index l.outputs) ≡ l.initial.out ++ comb_elements l.wires l.inputs l.outputs
