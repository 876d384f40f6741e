use Rattle.std.proofs.Common.{◌≡◌, ◌++◌, ◌∙◌, [], Some, option_map, sym, ap, subst, rules}
use Rattle.serde_json.specs.Find.{as_str}
use Rattle.serde_json.specs.View.{view, members_view}
use Rattle.serde_json.proofs.Views.{Entry}
use Rattle.json_members.specs.Members.{all_of}
use Rattle.domain_groups.specs.GivenOpening.{listed, value_told}
use Rattle.event_replay.proofs.GivenInputs.{all_told, member_next, told_apart}
use Rattle.event_replay.proofs.given.members_told.Goals as goal

pub members-preserved : goal.members-preserved
members-preserved c =
    let e : Entry = (c.in-Some.name.now, c.in-Some.value.now) in
    let text : as_str (view c.in-Some.value.now) ≡ Some c.in-Some-as_str.digits.now = sym c.as_str.ensures ∙ ap (option_map (λ s. s.now)) c.in-Some-as_str.is in
    member_next c.next.new.self e c.as_bytes.result.now c.in-Some-as_str.digits.now c.as_bytes-in-members.result.now c.members.values c.push.new.self _ text c.as_bytes.ensures.value c.as_bytes-in-members.ensures.value (search rules)
    (subst (λ es. option_map (λ vs. c.members.values ++ vs) (all_of value_told (listed (members_view es))) ≡ all_of value_told (listed (members_view c.args.members.now.entries))) c.in-Some.ensures.steps c.members.invariant)

pub returns-clause-apart : goal.returns-clause-apart
returns-clause-apart c =
    told_apart c.args.members.now.entries c.members.values (all_told c.members.values c.members.name-iterator _ (search rules) c.members.invariant) c.iter-name-items.ensures.ordered
