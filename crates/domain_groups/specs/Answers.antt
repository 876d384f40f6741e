-- What the reader of groups answers. The faults exclude one another in the order in which they stand here.
-- The rule is told in docs/FORMATS.md, "Groups".
use Rattle.std.specs.Prelude.{◌≡◌, ◌≢◌, ◌≤◌, ◌<◌, ℕ, List, length, map, Some, None, Result, Ok, Err}
use Rattle.serde_json.specs.Data.{Data}
use Rattle.json_members.specs.JsonText.{IsTextOf, IsNoJson}
use Rattle.design_core.specs.declared.parts.Parts.{Parts}
use Rattle.design_core.specs.Design.{port_bits}
use Rattle.domain_groups.specs.declared.fault.GroupFault.{GroupFault}
use Rattle.domain_groups.specs.declared.fault.GroupFault.TheVariants.{NotJson, BadShape, Limit, NameTaken, EmptyGroup, NoPort, PortTwice, NoMemory}
use Rattle.domain_groups.specs.declared.written.WrittenGroup.{WrittenGroup}
use Rattle.domain_groups.specs.Groups.{InputGroups}
use Rattle.domain_groups.specs.Judged.{FirstAreSound, IsFirstFault, group_of}
use Rattle.domain_groups.specs.Written.{groups_told}

-- the text is JSON and tells these groups
pub record Tells (bytes : List ℕ) (groups : List WrittenGroup) : Type 0 where
  pub tree : Data
  pub text : IsTextOf bytes tree
  pub form : groups_told tree ≡ Some groups

-- the text is JSON and has not the form
pub record HasBadShape (bytes : List ℕ) : Type 0 where
  pub tree : Data
  pub text : IsTextOf bytes tree
  pub shape : groups_told tree ≡ None

-- it tells more than 32 groups
pub record HasTooMany (bytes : List ℕ) : Type 0 where
  pub groups : List WrittenGroup
  pub told : Tells bytes groups
  pub many : 32 < length groups

-- it tells no more, and this is the fault of the first group that has one
pub record HasFault (p : Parts) (bytes : List ℕ) (fault : GroupFault) : Type 0 where
  pub groups : List WrittenGroup
  pub told : Tells bytes groups
  pub few : length groups ≤ 32
  pub first : IsFirstFault p.inputs groups fault

-- the text stands for these groups of the design
pub record StandsFor (p : Parts) (bytes : List ℕ) (v : InputGroups) : Type 0 where
  pub groups : List WrittenGroup
  pub told : Tells bytes groups
  pub few : length groups ≤ 32
  pub sound : FirstAreSound p.inputs groups (length groups)
  pub are : v ≡ record { groups = map (group_of p.inputs) groups; inputs = port_bits p.inputs }

-- the answer is the groups that the text stands for, or its first fault; no memory says nothing of the text
abbrev pub Answers : Parts → List ℕ → Result InputGroups GroupFault → Type 0
Answers p bytes (Ok v) = StandsFor p bytes v
Answers p bytes (Err NotJson) = IsNoJson bytes
Answers p bytes (Err BadShape) = HasBadShape bytes
Answers p bytes (Err Limit) = HasTooMany bytes
Answers p bytes (Err NoMemory) = Unit {0}
Answers p bytes (Err fault) = HasFault p bytes fault

-- a text has one answer for a design, want of memory aside
abbrev pub EachTextHasOneAnswer : Type 0
EachTextHasOneAnswer =
    (p : Parts) (bytes : List ℕ) (first second : Result InputGroups GroupFault) → first ≢ Err NoMemory → second ≢ Err NoMemory → Answers p bytes first → Answers p bytes second → first ≡ second
