use Rattle.std.proofs.Common.{◌≡◌, ◌++◌}
use Rattle.cell_parts.specs.Wires.{inner_names}
use Rattle.cell_parts.proofs.names.push_inner_names.Given as goal

abbrev pub invariant-nets : goal.invariant-nets
invariant-nets l = l.out ≡ l.initial.out ++ inner_names l.scope l.counter
