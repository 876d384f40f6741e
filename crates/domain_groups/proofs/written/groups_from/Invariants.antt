use Rattle.std.proofs.Common.{◌≡◌, ◌++◌, drop, option_map}
use Rattle.serde_json.specs.View.{items_view}
use Rattle.json_members.specs.Members.{each}
use Rattle.domain_groups.specs.Written.{group_told}
use Rattle.domain_groups.proofs.written.groups_from.Given as goal

abbrev pub invariant-values : goal.invariant-values
invariant-values l =
    option_map (λ rest. l.groups ++ rest) (each group_told (items_view (drop l.value-index l.values))) ≡ each group_told (items_view l.values)
