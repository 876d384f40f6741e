-- The texts that are printed for schedules and maps. Actions, subjects and outputs are written as they are
-- read; the members of an object stand in the order of their names.
-- The rules are told in docs/FORMATS.md, "The schedule" and "The map".
use Rattle.std.specs.Prelude.{◌≡◌, ℕ, List, [], ◌∷◌, ◌++◌, Some, IsUtf8, codes, map, slice_get, if◌then◌else◌}
use Rattle.std.specs.List.{list_any}
use Rattle.serde_json.specs.Data.{Data, boolean, string, object, Members, no_members, member}
use Rattle.serde_json.specs.Written.{compact_text}
use Rattle.emu_machine.specs.declared.map.ChipMap.{ChipMap}
use Rattle.emu_machine.specs.declared.map.MemMap.{MemMap}
use Rattle.emu_machine.specs.declared.map.StateMap.{StateMap}
use Rattle.emu_machine.specs.declared.map.Subject.{Subject}
use Rattle.emu_machine.specs.declared.schedule.Action.{Action}
use Rattle.emu_machine.specs.declared.schedule.Frame.{Frame}
use Rattle.emu_machine.specs.declared.schedule.Schedule.{Schedule}
use Rattle.emu_machine.specs.declared.schedule.Slot.{Slot}
use Rattle.result_files.specs.Trees.{list, whole}
use Rattle.result_files.specs.Rows.{row_tree}
use Rattle.result_files.specs.Schedule.{action_row}
use Rattle.result_files.specs.Map.{subject_row, spot_tree, has_clocked}

abbrev pub action_tree : Action → Data
action_tree action = row_tree (action_row action)

abbrev pub slot_tree : Slot → Data
slot_tree slot = list (map action_tree slot.actions)

unfoldable pub frame_tree : Frame → Data
frame_tree frame =
    object (member (codes "group") (string frame.group) (member (codes "slots") (list (map slot_tree frame.slots)) no_members))

unfoldable pub schedule_tree : Schedule → Data
schedule_tree schedule =
    object (member (codes "frames") (list (map frame_tree schedule.frames)) (member (codes "version") (whole 1) no_members))

abbrev pub subject_tree : Subject → Data
subject_tree subject = row_tree (subject_row subject)

unfoldable pub memory_tree : MemMap → Data
memory_tree memory =
    object (member (codes "of") (whole memory.of.place) (member (codes "reads") (list (map boolean memory.kept)) no_members))

unfoldable pub entry_tree : ChipMap → Data
entry_tree entry =
    object (member (codes "memories") (list (map memory_tree entry.memories))
    (member (codes "nets") (list (map subject_tree entry.nets))
    (member (codes "registers") (list (map boolean entry.kept)) no_members)))

-- the version of a map is 2 exactly where a subject of a clocked read occurs
abbrev pub map_version : StateMap → ℕ
map_version m = if list_any has_clocked m.chips then 2 else 1

unfoldable pub map_tree : StateMap → Data
map_tree m =
    object (member (codes "chips") (list (map entry_tree m.chips))
    (member (codes "outputs") (list (map spot_tree m.outputs))
    (member (codes "version") (whole (map_version m)) no_members)))

-- compact JSON and a newline
abbrev pub line_of : Data → List ℕ
line_of tree = compact_text tree ++ codes "\n"

abbrev pub schedule_text : Schedule → List ℕ
schedule_text schedule = line_of (schedule_tree schedule)

abbrev pub map_text : StateMap → List ℕ
map_text m = line_of (map_tree m)

-- each of these items is so
abbrev pub AreAll : {A : Type 0} → (A → Type 0) → List A → Type 0
AreAll Is items = (k : ℕ) (item : _) → slice_get items k ≡ Some item → Is item

-- a frame whose group has a name in UTF-8 can be printed
abbrev pub IsNamed : Frame → Type 0
IsNamed frame = IsUtf8 frame.group

abbrev pub AreNamed : Schedule → Type 0
AreNamed schedule = AreAll IsNamed schedule.frames

-- anything can be
abbrev pub Any : {A : Type 0} → A → Type 0
Any item = Unit {0}
