use Rattle.std.proofs.Common.{◌≡◌, ◌++◌, option_map}
use Rattle.serde_json.specs.View.{members_view}
use Rattle.json_members.specs.Members.{all_of}
use Rattle.domain_groups.specs.GivenOpening.{listed, value_told}
use Rattle.event_replay.proofs.given.members_told.Given as goal

abbrev pub invariant-members : goal.invariant-members
invariant-members l =
    option_map (λ values. l.values ++ values) (all_of value_told (listed (members_view l.name-iterator))) ≡ all_of value_told (listed (members_view l.members.entries))
