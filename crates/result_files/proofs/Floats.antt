-- No number of a printed tree has a point.
use Rattle.std.proofs.Common.{◌≡◌, ℕ, Bool, true, false, List, [], ◌∷◌, refl, sym, ap, ◌∙◌}
use Rattle.std.specs.Prelude.{map}
use Rattle.serde_json.specs.Data.{Data, boolean, string}
use Rattle.serde_json.specs.View.{items_of}
use Rattle.serde_json.specs.Written.{has_float, items_have_float}
use Rattle.emu_machine.specs.declared.map.ChipMap.{ChipMap}
use Rattle.emu_machine.specs.declared.map.MemMap.{MemMap}
use Rattle.emu_machine.specs.declared.map.Spot.{Spot}
use Rattle.emu_machine.specs.declared.map.StateMap.{StateMap}
use Rattle.emu_machine.specs.declared.map.Subject.{Subject}
use Rattle.emu_machine.specs.declared.schedule.Action.{Action}
use Rattle.emu_machine.specs.declared.schedule.Frame.{Frame}
use Rattle.emu_machine.specs.declared.schedule.Schedule.{Schedule}
use Rattle.emu_machine.specs.declared.schedule.Slot.{Slot}
use Rattle.result_files.specs.Trees.{list, whole}
use Rattle.result_files.specs.Rows.{Row, row_tree}
use Rattle.result_files.specs.Schedule.{action_row}
use Rattle.result_files.specs.Map.{subject_row, spot_tree}
use Rattle.result_files.specs.Printed.{action_tree, slot_tree, frame_tree, schedule_tree, subject_tree, memory_tree, entry_tree, map_tree}

-- a list of trees that have none has none
items_fine : {A : Type 0} (tree : A → Data) → ((item : A) → has_float (tree item) ≡ false) → (items : List A) → items_have_float (items_of (map tree items)) ≡ false
items_fine tree fine [] = refl
items_fine tree fine (item ∷ items) = rw (fine item, items_fine tree fine items) refl

row_fine : (row : Row) → has_float (row_tree row) ≡ false
row_fine row = items_fine whole (λ n. refl) row.1

slot_fine : (slot : Slot) → has_float (slot_tree slot) ≡ false
slot_fine slot = items_fine action_tree (λ action. row_fine (action_row action)) slot.actions

frame_fine : (frame : Frame) → has_float (frame_tree frame) ≡ false
unfolding frame_tree
frame_fine frame = rw (items_fine slot_tree slot_fine frame.slots) refl

pub schedule_fine : (schedule : Schedule) → has_float (schedule_tree schedule) ≡ false
unfolding schedule_tree
schedule_fine schedule = rw (items_fine frame_tree frame_fine schedule.frames) refl

memory_fine : (memory : MemMap) → has_float (memory_tree memory) ≡ false
unfolding memory_tree
memory_fine memory = rw (items_fine boolean (λ b. refl) memory.kept) refl

entry_fine : (entry : ChipMap) → has_float (entry_tree entry) ≡ false
unfolding entry_tree
entry_fine entry =
    rw (items_fine memory_tree memory_fine entry.memories, items_fine subject_tree (λ s. row_fine (subject_row s)) entry.nets, items_fine boolean (λ b. refl) entry.kept) refl

pub map_fine : (m : StateMap) → has_float (map_tree m) ≡ false
unfolding map_tree
map_fine m =
    rw (items_fine entry_tree entry_fine m.chips, items_fine spot_tree (λ s. refl) m.outputs) refl
