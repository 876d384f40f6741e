use Rattle.std.proofs.Common.{rules, arith, inl, inr}
use Rattle.std.proofs.lemmas.Bool.Decides.{nat_tests}
use Rattle.serde_json.specs.View.{view}
use Rattle.event_replay.proofs.Entered.{no_entry}
use Rattle.event_replay.proofs.given.word_told.Goals as goal
use Rattle.event_replay.proofs.given.word_told.Goals.{in_default-via-then-as_slice-lt3, in_default-via-else-as_slice-lt3+else-this-lt4}

pub returns-in_default : goal.returns-in_default
returns-in_default c =
    let same = c.as_slice.ensures.value in
    elim c.in_default.branch [
      | in_default-via-then-as_slice-lt3 w ↦ no_entry (view c.args.value.now) c.in_ok-items.items.now.items (search rules) (inl (grind (arith, nat_tests)))
      | in_default-via-else-as_slice-lt3+else-this-lt4 w ↦ no_entry (view c.args.value.now) c.in_ok-items.items.now.items (search rules) (inr (grind (arith, nat_tests)))
    ]
