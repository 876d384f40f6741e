-- Printed schedules are read back.
use Rattle.std.proofs.Common.{◌≡◌, ◌≤◌, ◌+◌, ℕ, zero, suc, List, [], ◌∷◌, Some, length, slice_get, refl, sym, ap, ◌∙◌, subst, arith}
use Rattle.std.specs.Prelude.{IsUtf8, codes, map}
use Rattle.std.proofs.lemmas.List.{length-map}
use Rattle.json.proofs.Printed.Utf8.{IsUtf8-are_ascii}
use Rattle.serde_json.specs.Data.{Data, string}
use Rattle.serde_json.specs.Read.{max_depth}
use Rattle.emu_machine.specs.declared.schedule.Action.{Action}
use Rattle.emu_machine.specs.declared.schedule.Action.TheVariants.{Input, Load, Send, Write, Read}
use Rattle.emu_machine.specs.declared.schedule.Frame.{Frame}
use Rattle.emu_machine.specs.declared.schedule.Schedule.{Schedule}
use Rattle.emu_machine.specs.declared.schedule.Slot.{Slot}
use Rattle.result_files.specs.Trees.{list, whole, IsWord}
use Rattle.result_files.specs.Rows.{AreWords, Row, row_tree}
use Rattle.result_files.specs.Lists.{IsListOf, SayEach}
use Rattle.result_files.specs.Schedule.{IsActionTree, IsFrameTree, IsSlotTree, SchedulesAreToldApart, action_row}
use Rattle.result_files.specs.Printed.{AreAll, IsNamed, action_tree, frame_tree, schedule_tree, slot_tree}
use Rattle.results_law.specs.ReadBack.{ActionFits, FrameFits, IsNumbered, SchedulesReadBack, SlotFits}
use Rattle.results_law.proofs.Trees.{AllBack, IsBack, all_mapped, line_reads, line_utf8, list_back, text_back, two_back, whole_back, wider}

-- a row of a name and numbers
pub row_back : (row : Row) → IsUtf8 row.0 → AreWords row.1 → IsBack 1 (row_tree row)
row_back row named fits = list_back 0 (string row.0 ∷ map whole row.1) (text_back row.0 named, numbers row.1 fits)
  where
    numbers : (ns : List ℕ) → AreWords ns → AllBack 0 (map whole ns)
    numbers [] words = tt
    numbers (n ∷ ns) words = (whole_back n words.0, numbers ns words.1)

-- trees that were made of values say these values
pub each_said : {A : Type 0} (as_tree : A → Data) (Says : Data → A → Type 0) (xs : List A) → ((k : ℕ) (x : A) → slice_get xs k ≡ Some x → Says (as_tree x) x) → SayEach Says (map as_tree xs) xs
each_said as_tree Says [] each = tt
each_said as_tree Says (x ∷ xs) each = (each 0 x refl, each_said as_tree Says xs (λ k y e. each (suc k) y e))

pub list_said : {A : Type 0} (as_tree : A → Data) (Says : Data → A → Type 0) (xs : List A) → IsNumbered xs → ((k : ℕ) (x : A) → slice_get xs k ≡ Some x → Says (as_tree x) x) → IsListOf Says (list (map as_tree xs)) xs
list_said as_tree Says xs few each = record {
  trees = map as_tree xs;
  tree_is = refl;
  few = (let size = length-map xs as_tree in omega arith);
  each = each_said as_tree Says xs each;
}

action_named : (action : Action) → IsUtf8 (action_row action).0
action_named (Input chip register net) = IsUtf8-are_ascii (codes "input") refl
action_named (Load chip register) = IsUtf8-are_ascii (codes "load") refl
action_named (Send wire net register) = IsUtf8-are_ascii (codes "send") refl
action_named (Write chip memory port) = IsUtf8-are_ascii (codes "write") refl
action_named (Read chip memory port) = IsUtf8-are_ascii (codes "read") refl

action_back : (action : Action) → ActionFits action → IsBack 1 (action_tree action)
action_back action fits = row_back (action_row action) (action_named action) fits

slot_back : (slot : Slot) → SlotFits slot → IsBack 2 (slot_tree slot)
slot_back slot fits = list_back 1 (map action_tree slot.actions) (all_mapped action_tree 1 slot.actions (λ k a e. action_back a (fits.actions k a e)))

frame_back : (frame : Frame) → FrameFits frame → IsNamed frame → IsBack 4 (frame_tree frame)
unfolding frame_tree
frame_back frame fits named =
    two_back 3 (codes "group") (codes "slots") (string frame.group) (list (map slot_tree frame.slots)) refl (IsUtf8-are_ascii (codes "group") refl) (IsUtf8-are_ascii (codes "slots") refl)
    (wider 0 3 (string frame.group) (omega arith) (text_back frame.group named))
    (list_back 2 (map slot_tree frame.slots) (all_mapped slot_tree 2 frame.slots (λ k s e. slot_back s (fits.slots k s e))))

slot_said : (slot : Slot) → SlotFits slot → IsSlotTree (slot_tree slot) slot
slot_said slot fits = list_said action_tree IsActionTree slot.actions fits.few (λ k a e. record { tree_is = refl; fit = fits.actions k a e })

frame_said : (frame : Frame) → FrameFits frame → IsFrameTree (frame_tree frame) frame
unfolding frame_tree
frame_said frame fits = record {
  group = refl;
  slots = record { member = list (map slot_tree frame.slots); there = refl; is = list_said slot_tree IsSlotTree frame.slots fits.few (λ k s e. slot_said s (fits.slots k s e)) };
}

pub schedules_back : SchedulesReadBack
unfolding schedule_tree
schedules_back schedule fits named =
    let back = two_back 5 (codes "frames") (codes "version") (list (map frame_tree schedule.frames)) (whole 1) refl (IsUtf8-are_ascii (codes "frames") refl) (IsUtf8-are_ascii (codes "version") refl)
    (list_back 4 (map frame_tree schedule.frames) (all_mapped frame_tree 4 schedule.frames (λ k f e. frame_back f (fits.frames k f e) (named k f e))))
    (wider 0 5 (whole 1) (omega arith) (whole_back 1 (omega arith))) in
    record {
      tree = schedule_tree schedule;
      text = record {
        utf8 = line_utf8 (schedule_tree schedule) 6 back;
        reads = line_reads (schedule_tree schedule) (wider 6 max_depth (schedule_tree schedule) (omega arith) back);
      };
      version = refl;
      form = record {
        member = list (map frame_tree schedule.frames);
        there = refl;
        is = list_said frame_tree IsFrameTree schedule.frames fits.few (λ k f e. frame_said f (fits.frames k f e));
      };
    }
