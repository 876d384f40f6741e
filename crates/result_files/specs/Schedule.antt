-- The schedules as texts:
-- {"frames":[{"group":TEXT,"slots":[[ACTION,..],..]},..],"version":1}
-- The rule is told in docs/FORMATS.md, "The schedule".
use Rattle.std.specs.Prelude.{◌≡◌, ℕ, List, [], ◌∷◌, Result, Ok, Err, codes}
use Rattle.serde_json.specs.Data.{Data, string}
use Rattle.json_members.specs.JsonText.{IsTextOf, IsNoJson}
use Rattle.emu_machine.specs.declared.schedule.Action.{Action}
use Rattle.emu_machine.specs.declared.schedule.Action.TheVariants.{Input, Load, Send, Write, Read}
use Rattle.emu_machine.specs.declared.schedule.Frame.{Frame}
use Rattle.emu_machine.specs.declared.schedule.Schedule.{Schedule}
use Rattle.emu_machine.specs.declared.schedule.Slot.{Slot}
use Rattle.result_files.specs.Trees.{list, whole, AreFew, HasMember}
use Rattle.result_files.specs.Lists.{SaysNone, FirstBad, IsListOf, HasList}
use Rattle.result_files.specs.Rows.{Row, IsRow}
use Rattle.result_files.specs.declared.result_fault.ResultFault.{ResultFault}
use Rattle.result_files.specs.declared.result_fault.ResultFault.TheVariants.{ScheduleNotJson, ScheduleVersion, ScheduleForm, NoMemory}

-- how each action is written
abbrev pub action_row : Action → Row
action_row (Input chip register net) = (codes "input", chip.place ∷ register.place ∷ net.place ∷ [])
action_row (Load chip register) = (codes "load", chip.place ∷ register.place ∷ [])
action_row (Send wire net register) = (codes "send", wire.place ∷ net.place ∷ register.place ∷ [])
action_row (Write chip memory port) = (codes "write", chip.place ∷ memory.place ∷ port ∷ [])
action_row (Read chip memory port) = (codes "read", chip.place ∷ memory.place ∷ port ∷ [])

-- the tree is that of an action
abbrev pub IsActionTree : Data → Action → Type 0
IsActionTree tree action = IsRow tree (action_row action)

-- the tree is the list of a slot's actions
abbrev pub IsSlotTree : Data → Slot → Type 0
IsSlotTree tree slot = IsListOf IsActionTree tree slot.actions

-- the tree has the name of a frame's group, and the list of its slots
pub record IsFrameTree (tree : Data) (frame : Frame) : Type 0 where
  pub group : HasMember (codes "group") (string frame.group) tree
  pub slots : HasList (codes "slots") IsSlotTree tree frame.slots

-- the tree has the list of a schedule's frames
abbrev pub IsScheduleTree : Data → Schedule → Type 0
IsScheduleTree tree schedule = HasList (codes "frames") IsFrameTree tree schedule.frames

-- the tree is of version 1
abbrev pub IsOfVersionOne : Data → Type 0
IsOfVersionOne tree = HasMember (codes "version") (whole 1) tree

-- the text is JSON for such a tree, of version 1
pub record SaysSchedule (bytes : List ℕ) (schedule : Schedule) : Type 0 where
  pub tree : Data
  pub text : IsTextOf bytes tree
  pub version : IsOfVersionOne tree
  pub form : IsScheduleTree tree schedule

-- the tree is a list with so few entries that they can be numbered
pub record IsShortList (tree : Data) (entries : List Data) : Type 0 where
  pub tree_is : tree ≡ list entries
  pub few : AreFew entries

-- the tree has a text as `group`, and as `slots` a list of these
pub record IsFrameOf (tree : Data) (slots : List Data) : Type 0 where
  pub name : List ℕ
  pub group : HasMember (codes "group") (string name) tree
  pub there : HasMember (codes "slots") (list slots) tree
  pub few : AreFew slots

-- the tree has as `frames` a list of these
pub record HasFrames (tree : Data) (frames : List Data) : Type 0 where
  pub there : HasMember (codes "frames") (list frames) tree
  pub few : AreFew frames

-- The tree is bad as a slot: it is no list, or this action is the first that is none.
pub data IsBadSlot (tree : Data) : ℕ → Type 0 where
  shape : ((actions : List Data) → IsShortList tree actions → ⊥) → IsBadSlot tree 0
  at : (actions : List Data) (action : ℕ) → IsShortList tree actions → FirstBad IsActionTree (SaysNone IsActionTree) actions action → IsBadSlot tree action

-- The tree is bad as a frame: it has no name or no list of slots, or this slot is its first bad one.
pub data IsBadFrame (tree : Data) : ℕ → ℕ → Type 0 where
  shape : ((slots : List Data) → IsFrameOf tree slots → ⊥) → IsBadFrame tree 0 0
  at : (slots : List Data) (slot action : ℕ) → IsFrameOf tree slots → FirstBad IsSlotTree (λ t. IsBadSlot t action) slots slot → IsBadFrame tree slot action

-- The tree is bad as a schedule: it has no list of frames, or this frame is its first bad one.
pub data IsBadSchedule (tree : Data) : ℕ → ℕ → ℕ → Type 0 where
  shape : ((frames : List Data) → HasFrames tree frames → ⊥) → IsBadSchedule tree 0 0 0
  at : (frames : List Data) (frame slot action : ℕ) → HasFrames tree frames → FirstBad IsFrameTree (λ t. IsBadFrame t slot action) frames frame → IsBadSchedule tree frame slot action

-- the text is JSON whose tree is so
pub record TextIs (bytes : List ℕ) (Is : Data → Type 0) : Type 0 where
  pub tree : Data
  pub text : IsTextOf bytes tree
  pub is : Is tree

-- the schedule that the text says, or its first fault
abbrev pub ScheduleAnswers : List ℕ → Result Schedule ResultFault → Type 0
ScheduleAnswers bytes (Ok schedule) = SaysSchedule bytes schedule
ScheduleAnswers bytes (Err ScheduleNotJson) = IsNoJson bytes
ScheduleAnswers bytes (Err ScheduleVersion) = TextIs bytes (λ tree. IsOfVersionOne tree → ⊥)
ScheduleAnswers bytes (Err (ScheduleForm frame slot action)) = TextIs bytes (λ tree. IsOfVersionOne tree × IsBadSchedule tree frame slot action)
ScheduleAnswers bytes (Err NoMemory) = Unit {0}
ScheduleAnswers bytes (Err other) = ⊥

-- a text stands for at most one schedule
abbrev pub SchedulesAreToldApart : Type 0
SchedulesAreToldApart =
    (bytes : List ℕ) (first second : Schedule) → SaysSchedule bytes first → SaysSchedule bytes second → first ≡ second
