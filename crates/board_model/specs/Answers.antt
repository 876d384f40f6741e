-- What the reader of boards answers. The faults exclude one another in the order in which they stand here.
-- The rule is told in docs/FORMATS.md, "The board".
use Rattle.std.specs.Prelude.{◌≡◌, ◌≢◌, ℕ, true, false, List, Result, Ok, Err}
use Rattle.serde_json.specs.Data.{Data}
use Rattle.json_members.specs.JsonText.{IsTextOf, IsNoJson}
use Rattle.board_model.specs.declared.fault.BoardFault.{BoardFault}
use Rattle.board_model.specs.declared.fault.BoardFault.TheVariants.{NotJson, BadShape, Version, Limit, BadWire, NoMemory}
use Rattle.id_arena.specs.BoardPlan.{BoardPlan}
use Rattle.board_model.specs.Sound.{IsWithinLimits, IsFirstBadWire, IsSound}
use Rattle.board_model.specs.Form.{HasForm, is_known}

-- the text is of version 1 or 2 and has the form, with these numbers
pub record Says (bytes : List ℕ) (plan : BoardPlan) : Type 0 where
  pub tree : Data
  pub text : IsTextOf bytes tree
  pub version : ℕ
  pub known : is_known version ≡ true
  pub form : HasForm tree version plan

-- the text is JSON and has not the form
pub record HasBadShape (bytes : List ℕ) : Type 0 where
  pub tree : Data
  pub text : IsTextOf bytes tree
  pub shape : (version : ℕ) (plan : BoardPlan) → ¬ HasForm tree version plan

-- the text has the form, and its version is neither 1 nor 2
pub record HasOtherVersion (bytes : List ℕ) : Type 0 where
  pub tree : Data
  pub text : IsTextOf bytes tree
  pub version : ℕ
  pub plan : BoardPlan
  pub form : HasForm tree version plan
  pub other : is_known version ≡ false

-- the text stands for this board
pub record StandsFor (bytes : List ℕ) (plan : BoardPlan) : Type 0 where
  pub says : Says bytes plan
  pub sound : IsSound plan

-- its numbers are not within the limits
pub record IsBeyondLimits (bytes : List ℕ) : Type 0 where
  pub plan : BoardPlan
  pub says : Says bytes plan
  pub beyond : ¬ IsWithinLimits plan

-- its numbers are within the limits, and this is the first wire that does not join two chips
pub record HasBadWire (bytes : List ℕ) (number : ℕ) : Type 0 where
  pub plan : BoardPlan
  pub says : Says bytes plan
  pub limits : IsWithinLimits plan
  pub wire : IsFirstBadWire plan number

-- the answer is the board that the text stands for, or its first fault; no memory says nothing of the text
abbrev pub Answers : List ℕ → Result BoardPlan BoardFault → Type 0
Answers bytes (Ok plan) = StandsFor bytes plan
Answers bytes (Err NotJson) = IsNoJson bytes
Answers bytes (Err BadShape) = HasBadShape bytes
Answers bytes (Err Version) = HasOtherVersion bytes
Answers bytes (Err Limit) = IsBeyondLimits bytes
Answers bytes (Err (BadWire wire)) = HasBadWire bytes wire.place
Answers bytes (Err NoMemory) = Unit {0}

-- a text has one answer, want of memory aside: it stands for at most one board, and a refused text has one first fault
abbrev pub EachTextHasOneAnswer : Type 0
EachTextHasOneAnswer =
    (bytes : List ℕ) (first second : Result BoardPlan BoardFault) → first ≢ Err NoMemory → second ≢ Err NoMemory → Answers bytes first → Answers bytes second → first ≡ second
