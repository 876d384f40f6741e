use Rattle.std.proofs.Common.{◌≡◌, ◌++◌, option_map, drop}
use Rattle.serde_json.specs.View.{items_view}
use Rattle.json_members.specs.Members.{each}
use Rattle.domain_groups.specs.GivenOpening.{word_told}
use Rattle.event_replay.proofs.given.words_of.Given as goal

abbrev pub invariant-values : goal.invariant-values
invariant-values l =
    option_map (λ words. l.words ++ words) (each word_told (items_view (drop l.value-index l.values))) ≡ each word_told (items_view l.values)
