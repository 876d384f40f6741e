use Rattle.std.proofs.Common.{◌≡◌, ◌++◌, option_map, map, drop}
use Rattle.serde_json.specs.Find.{as_str}
use Rattle.serde_json.specs.View.{items_view}
use Rattle.json_members.specs.Members.{each}
use Rattle.event_replay.proofs.given.texts_of.Given as goal

abbrev pub invariant-values : goal.invariant-values
invariant-values l =
    option_map (λ texts. map (λ text. text.now) l.texts ++ texts) (each as_str (items_view (drop l.value-index l.values))) ≡ each as_str (items_view l.values)
