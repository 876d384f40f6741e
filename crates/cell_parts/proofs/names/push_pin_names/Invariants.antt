use Rattle.std.proofs.Common.{◌≡◌, ◌++◌, map, Some}
use Rattle.std.specs.List.{range_with_len}
use Rattle.cell_parts.specs.Wires.{indexed_names}
use Rattle.cell_parts.proofs.names.push_pin_names.Given as goal

abbrev pub invariant-bits : goal.invariant-bits
invariant-bits l = l.out ≡ l.initial.out ++ indexed_names l.scope l.name (map Some (range_with_len 0 l.bit))
