-- Inside the reader: what its steps answer.
use Rattle.std.specs.Prelude.{◌≡◌, ℕ, true, false, List, Option, Some, None, Result, Ok, Err}
use Rattle.serde_json.specs.Data.{Data, Items}
use Rattle.json_members.specs.Members.{each}
use Rattle.board_model.specs.declared.fault.BoardFault.{BoardFault}
use Rattle.board_model.specs.declared.fault.BoardFault.TheVariants.{NotJson, BadShape, Version, Limit, BadWire, NoMemory}
use Rattle.board_model.specs.declared.form.BoardForm.{BoardForm}
use Rattle.id_arena.specs.BoardPlan.{BoardPlan}
use Rattle.board_model.specs.Sound.{IsSound, IsWithinLimits, IsFirstBadWire}
use Rattle.board_model.specs.Form.{HasForm, is_known}

-- the numbers of a form as a plan
abbrev pub plan_of : BoardForm → BoardPlan
plan_of form = record { rooms = form.rooms; wires = form.wires; slots = form.slots }

-- what every entry of the list stands for; `BadShape` exactly where one stands for nothing
abbrev pub ListAnswers : {A : Type 0} → (Data → Option A) → Items → Result (List A) BoardFault → Type 0
ListAnswers form entries (Ok found) = each form entries ≡ Some found
ListAnswers form entries (Err NoMemory) = Unit {0}
ListAnswers form entries (Err BadShape) = each form entries ≡ None
ListAnswers form entries (Err NotJson) = ⊥
ListAnswers form entries (Err Version) = ⊥
ListAnswers form entries (Err Limit) = ⊥
ListAnswers form entries (Err (BadWire wire)) = ⊥

-- the numbers of a tree that has the form; `BadShape` exactly where it has not
abbrev pub FormAnswers : Data → Result BoardForm BoardFault → Type 0
FormAnswers tree (Ok form) = HasForm tree form.version (plan_of form)
FormAnswers tree (Err NoMemory) = Unit {0}
FormAnswers tree (Err BadShape) = (version : ℕ) (plan : BoardPlan) → ¬ HasForm tree version plan
FormAnswers tree (Err NotJson) = ⊥
FormAnswers tree (Err Version) = ⊥
FormAnswers tree (Err Limit) = ⊥
FormAnswers tree (Err (BadWire wire)) = ⊥

-- the board of a form, or the first fault in its numbers
abbrev pub Judges : BoardForm → Result BoardPlan BoardFault → Type 0
Judges form (Ok plan) = (is_known form.version ≡ true) × (plan ≡ plan_of form) × IsSound plan
Judges form (Err Version) = is_known form.version ≡ false
Judges form (Err Limit) = (is_known form.version ≡ true) × ¬ IsWithinLimits (plan_of form)
Judges form (Err (BadWire wire)) =
    (is_known form.version ≡ true) × IsWithinLimits (plan_of form) × IsFirstBadWire (plan_of form) wire.place
Judges form (Err NotJson) = ⊥
Judges form (Err BadShape) = ⊥
Judges form (Err NoMemory) = ⊥
