use Rattle.std.proofs.Common.{◌≡◌, ◌++◌, drop, option_map}
use Rattle.serde_json.specs.View.{items_view}
use Rattle.json_members.specs.Members.{each}
use Rattle.cell_table.specs.Kinds.{write_of}
use Rattle.cell_table.proofs.kinds.writes_from.Given as goal

abbrev pub invariant-loop-value : goal.invariant-loop-value
invariant-loop-value l =
    option_map (λ rest. l.writes ++ rest) (each (write_of l.address_bits) (items_view (drop l.value-index l.values))) ≡ each (write_of l.address_bits) (items_view l.values)
