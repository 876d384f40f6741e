use Rattle.std.proofs.Common.{◌≡◌, ◌++◌, drop}
use Rattle.std.specs.Prelude.{flat_map}
use Rattle.cell_parts.specs.Wires.{new_names, tied_by}
use Rattle.cell_parts.proofs.names.push_new_names.Given as goal

abbrev pub invariant-pins : goal.invariant-pins
invariant-pins l =
    l.out ++ flat_map (new_names l.scope) (drop l.place (tied_by l.pins l.ties)) ≡ l.initial.out ++ flat_map (new_names l.scope) (tied_by l.pins l.ties)
