-- The verdict on the rules A1 to A9: the first that fails, with its least place.
-- The rule is told in docs/RULES.md, "Acceptance".
use Rattle.std.specs.Prelude.{◌<◌, ◌≤◌, ℕ, Bool, Some}
use Rattle.design_core.specs.declared.node.NodeId.{NodeId}
use Rattle.emu_machine.specs.declared.place.Place.{Place}
use Rattle.emu_machine.specs.declared.rule.Rule.{Rule}
use Rattle.emu_machine.specs.Acceptance.{Case, Fails, Influences, IsAccepted, IsFirstFailure, rule_number}
use Rattle.use_check.specs.Least.{IsLeast, Never}
use Rattle.shape_check.specs.declared.verdict.Verdict.{Verdict}
use Rattle.shape_check.specs.declared.verdict.Verdict.TheVariants.{Accepted, Rejected}

-- Of rules that are told by where they fail, this one is the first that fails: those before it fail nowhere,
-- and this is the least place at which it fails.
pub record IsFirst (fails : Rule → Place → Type 0) (rule : Rule) (at : Place) : Type 0 where
  pub earlier : (other : Rule) → rule_number other < rule_number rule → Never (fails other)
  pub least : IsLeast (fails rule) (Some at)

-- The verdict on the rules A1 to A9. None of them asks for the influence of a group, so that the verdict holds
-- whatever the influences are.
abbrev pub IsShapeVerdict : Case → Verdict → Type 0
IsShapeVerdict c Accepted = (inside : ℕ → NodeId → Bool) (rule : Rule) → rule_number rule ≤ 9 → Never (Fails c inside rule)
IsShapeVerdict c (Rejected rule at) = (rule_number rule ≤ 9) × ((inside : ℕ → NodeId → Bool) → IsFirst (Fails c inside) rule at)

-- what is first in this sense is the first failure of the results
abbrev pub FirstIsFirstFailure : Type 0
FirstIsFirstFailure = (c : Case) (inside : ℕ → NodeId → Bool) (rule : Rule) (at : Place)
    → Influences c inside → IsFirst (Fails c inside) rule at → IsFirstFailure c rule at

-- The verdict on all twelve rules: results are accepted where these hold, and else rejected with their first failure.
abbrev pub IsVerdict : Case → Verdict → Type 0
IsVerdict c Accepted = IsAccepted c
IsVerdict c (Rejected rule at) = IsFirstFailure c rule at

-- ## Inside the judge

-- the verdict on all twelve rules, where these are the influences of the groups
abbrev pub IsVerdictOn : Case → (ℕ → NodeId → Bool) → Verdict → Type 0
IsVerdictOn c inside Accepted = (rule : Rule) → Never (Fails c inside rule)
IsVerdictOn c inside (Rejected rule at) = IsFirst (Fails c inside) rule at

-- the rules before the one of this number hold, whatever the influences are
abbrev pub HoldBefore : Case → ℕ → Type 0
HoldBefore c n = (inside : ℕ → NodeId → Bool) (other : Rule) → rule_number other < n → Never (Fails c inside other)
