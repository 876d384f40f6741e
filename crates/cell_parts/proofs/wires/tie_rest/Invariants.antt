use Rattle.cell_parts.proofs.Filling.{IsFilled}
use Rattle.cell_parts.proofs.wires.tie_rest.Given as goal

abbrev pub invariant-pins : goal.invariant-pins
invariant-pins l = IsFilled l.pins l.initial.ties l.initial.next l.ties l.next l.place
