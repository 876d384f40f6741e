use Rattle.std.proofs.Common.{◌≡◌, ◌≤◌, drop, length}
use Rattle.design_core.specs.Design.{port_bits}
use Rattle.shape_check.specs.Mapped.{NoOutputBefore}
use Rattle.shape_check.proofs.unmapped.find_output.Given as goal

abbrev pub invariant-ports : goal.invariant-ports
invariant-ports l = record {
  low : l.next ≤ length (port_bits l.case.design.outputs);
  before : NoOutputBefore l.case l.next;
  rest : drop l.next (port_bits l.case.design.outputs) ≡ port_bits (drop l.k l.ports);
}
