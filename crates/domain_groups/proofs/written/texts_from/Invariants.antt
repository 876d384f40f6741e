use Rattle.std.proofs.Common.{◌≡◌, ◌++◌, drop, option_map}
use Rattle.serde_json.specs.Find.{as_str}
use Rattle.serde_json.specs.View.{items_view}
use Rattle.json_members.specs.Members.{each}
use Rattle.domain_groups.proofs.written.texts_from.Given as goal

abbrev pub invariant-values : goal.invariant-values
invariant-values l =
    option_map (λ rest. l.texts ++ rest) (each as_str (items_view (drop l.value-index l.values))) ≡ each as_str (items_view l.values)
