use Rattle.std.proofs.Common.{◌≡◌, ◌++◌, drop, option_map}
use Rattle.serde_json.specs.View.{items_view}
use Rattle.json_members.specs.Members.{each}
use Rattle.cell_table.specs.Kinds.{out_of}
use Rattle.cell_table.proofs.kinds.outs_from.Given as goal

abbrev pub invariant-loop-value : goal.invariant-loop-value
invariant-loop-value l =
    option_map (λ rest. l.outs ++ rest) (each out_of (items_view (drop l.value-index l.values))) ≡ each out_of (items_view l.values)
