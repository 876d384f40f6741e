-- The schedules of `input` actions alone, as texts:
-- {"version":1,"frames":[{"group":TEXT,"slots":[[["input",CHIP,REGISTER,NET],..],..]},..]}
-- The rule is told in docs/FORMATS.md, "The schedule".
use Rattle.std.specs.Prelude.{◌≡◌, ℕ, List, [], ◌∷◌, codes}
use Rattle.serde_json.specs.Data.{Data, string}
use Rattle.json_members.specs.JsonText.{IsTextOf}
use Rattle.emu_machine.specs.declared.schedule.Action.{Action}
use Rattle.emu_machine.specs.declared.schedule.Action.TheVariants.{Input}
use Rattle.emu_machine.specs.declared.schedule.Frame.{Frame}
use Rattle.emu_machine.specs.declared.schedule.Schedule.{Schedule}
use Rattle.emu_machine.specs.declared.schedule.Slot.{Slot}
use Rattle.result_files.specs.Trees.{list, whole, IsWord, HasMember}
use Rattle.result_files.specs.Lists.{IsListOf, HasList}

-- the tree is ["input",CHIP,REGISTER,NET], with numbers of 32 bits
pub record IsInputTree (tree : Data) (chip register net : ℕ) : Type 0 where
  pub tree_is : tree ≡ list (string (codes "input") ∷ whole chip ∷ whole register ∷ whole net ∷ [])
  pub chip_fits : IsWord chip
  pub register_fits : IsWord register
  pub net_fits : IsWord net

-- the tree says an `input`
abbrev pub IsActionTree : Data → Action → Type 0
IsActionTree tree (Input chip register net) = IsInputTree tree chip.place register.place net.place
IsActionTree tree other = ⊥

-- the tree is the list of a slot's actions
abbrev pub IsSlotTree : Data → Slot → Type 0
IsSlotTree tree slot = IsListOf IsActionTree tree slot.actions

-- the tree has the name of a frame's group, and the list of its slots
pub record IsFrameTree (tree : Data) (frame : Frame) : Type 0 where
  pub group : HasMember (codes "group") (string frame.group) tree
  pub slots : HasList (codes "slots") IsSlotTree tree frame.slots

-- the tree is of version 1 and has the list of a schedule's frames
pub record IsScheduleTree (tree : Data) (schedule : Schedule) : Type 0 where
  pub version : HasMember (codes "version") (whole 1) tree
  pub frames : HasList (codes "frames") IsFrameTree tree schedule.frames

-- the text is JSON for such a tree
pub record SaysSchedule (bytes : List ℕ) (schedule : Schedule) : Type 0 where
  pub tree : Data
  pub text : IsTextOf bytes tree
  pub form : IsScheduleTree tree schedule

-- a text stands for at most one schedule
abbrev pub TextsTellSchedulesApart : Type 0
TextsTellSchedulesApart =
    (bytes : List ℕ) (first second : Schedule) → SaysSchedule bytes first → SaysSchedule bytes second → first ≡ second
