use Rattle.std.proofs.Common.{◌≡◌, ◌+◌, ◌*◌, ◌≤◌, drop}
use Rattle.cell_parts.specs.Wires.{new_count, tied_by}
use Rattle.cell_parts.proofs.names.new_count.Given as goal

abbrev pub invariant-pins : goal.invariant-pins
invariant-pins l = (l.count + new_count (drop l.place (tied_by l.pins l.ties)) ≡ new_count (tied_by l.pins l.ties)) × (l.count ≤ l.place * 4294967295)
