-- What the readers of schedules answer where a part of what they read was answered.
use Rattle.std.proofs.Common.{◌≡◌, ◌<◌, ℕ, List, length, get_or, take, Result, Ok, Err, sym, subst}
use Rattle.std.specs.Prelude.{IsErr, map, codes}
use Rattle.std.specs.Result.{IsErrAnd}
use Rattle.serde_json.specs.Data.{Data, string}
use Rattle.serde_json.specs.View.{view}
use Rattle.json_members.specs.JsonText.{IsTextOf}
use Rattle.emu_machine.specs.declared.schedule.Frame.{Frame}
use Rattle.emu_machine.specs.declared.schedule.Schedule.{Schedule}
use Rattle.emu_machine.specs.declared.schedule.Slot.{Slot}
use Rattle.serde_json.specs.declared.value.Value.{Value}
use Rattle.result_files.specs.Trees.{list, AreFew, HasMember}
use Rattle.result_files.specs.Faults.{Answers}
use Rattle.result_files.specs.Lists.{SayEach, SaysNone, FirstBad}
use Rattle.result_files.specs.Schedule.{IsActionTree, IsSlotTree, IsFrameTree, IsScheduleTree, IsFrameOf, HasFrames, IsBadSlot, IsBadFrame, IsBadSchedule, IsOfVersionOne, ScheduleAnswers}
use Rattle.result_files.specs.Schedule.IsBadSlot.{shape as slot_shape, at as slot_at}
use Rattle.result_files.specs.Schedule.IsBadFrame.{shape as frame_shape, at as frame_at}
use Rattle.result_files.specs.Schedule.IsBadSchedule.{shape as schedule_shape, at as schedule_at}
use Rattle.result_files.specs.Readers.{ListAnswers, Places, BadSlotAt, BadSlots, BadFrameAt, BadFrames}
use Rattle.result_files.specs.declared.fault.FormFault.{FormFault}
use Rattle.result_files.specs.declared.fault.FormFault.TheVariants.{NotYet}
use Rattle.result_files.specs.declared.told.ListFault.{ListFault}
use Rattle.result_files.specs.declared.told.ListFault.TheVariants as list_fault
use Rattle.result_files.specs.declared.result_fault.ResultFault.{ResultFault}
use Rattle.result_files.specs.declared.result_fault.ResultFault.TheVariants.{NetlistLex, NetlistForm, NetlistShape, ScheduleNotJson, ScheduleVersion, ScheduleForm, MapNotJson, MapVersion, MapForm, NoMemory}
use Rattle.result_files.proofs.Entries.{bad_at}

-- where nothing is said
pub none_said : {A : Type 0} (P : A → Type 0) (fault : FormFault) → fault ≡ NotYet → Answers P (Err fault) → (value : A) → P value → ⊥
none_said P fault is answer = subst (λ f. Answers P (Err f)) is answer

-- where an entry is the first bad one
pub first_bad : {A : Type 0} (Says : Data → A → Type 0) (trees : List Data) (fault : ListFault) (k : ℕ) → fault ≡ list_fault.Bad k → ListAnswers Says trees (Err fault) → FirstBad Says (SaysNone Says) trees k
first_bad Says trees fault k is answer = subst (λ f. ListAnswers Says trees (Err f)) is answer

-- the fault of a part is one of the whole
carried : {A B : Type 0} (P : A → Type 0) (IsBad : ℕ → ℕ → ℕ → Type 0) (Q : B → Type 0) (IsWorse : ℕ → ℕ → ℕ → Type 0) (fault : ResultFault) → ((f s a : ℕ) → IsBad f s a → IsWorse f s a) → Places P IsBad (Err fault) → Places Q IsWorse (Err fault)
carried P IsBad Q IsWorse (NetlistLex e) on answer = answer
carried P IsBad Q IsWorse (NetlistForm t) on answer = answer
carried P IsBad Q IsWorse (NetlistShape c n) on answer = answer
carried P IsBad Q IsWorse ScheduleNotJson on answer = answer
carried P IsBad Q IsWorse ScheduleVersion on answer = answer
carried P IsBad Q IsWorse (ScheduleForm f s a) on answer = on f s a answer
carried P IsBad Q IsWorse MapNotJson on answer = answer
carried P IsBad Q IsWorse MapVersion on answer = answer
carried P IsBad Q IsWorse (MapForm e) on answer = answer
carried P IsBad Q IsWorse NoMemory on answer = answer

-- the same, handed on
pub passed_on : {A B : Type 0} (P : A → Type 0) (IsBad : ℕ → ℕ → ℕ → Type 0) (Q : B → Type 0) (IsWorse : ℕ → ℕ → ℕ → Type 0) (r : Result B ResultFault) (fault : ResultFault) → IsErr r × IsErrAnd r (λ e. e ≡ fault) → ((f s a : ℕ) → IsBad f s a → IsWorse f s a) → Places P IsBad (Err fault) → Places Q IsWorse r
passed_on P IsBad Q IsWorse (Ok value) fault is on answer = absurd is.1
passed_on P IsBad Q IsWorse (Err e) fault is on answer =
    subst (λ f. Places Q IsWorse (Err f)) (sym is.1) (carried P IsBad Q IsWorse fault on answer)

-- no list of actions
pub no_actions : (tree : Data) → ((actions : List Data) → AreFew actions → tree ≡ list actions → ⊥) → IsBadSlot tree 0
no_actions tree none = slot_shape (λ actions short. none actions short.few short.tree_is)

-- an action that is none
pub no_action : (tree : Data) (actions : List Data) (fault : ListFault) (k : ℕ) → tree ≡ list actions → AreFew actions → fault ≡ list_fault.Bad k → ListAnswers IsActionTree actions (Err fault) → IsBadSlot tree k
no_action tree actions fault k is few at answer =
    slot_at actions k (record { tree_is = is; few = few }) (first_bad IsActionTree actions fault k at answer)

-- a slot that is bad
pub slot_bad : (entries : List Value) (values : List Slot) (frame k : ℕ) (entry : Value) → k < length entries → entry ≡ get_or entries k entry → SayEach IsSlotTree (map view (take k entries)) values → (f s a : ℕ) → BadSlotAt (view entry) frame k f s a → BadSlots (map view entries) frame f s a
slot_bad entries values frame k entry within at-entry before f s a bad = (
  bad.0,
  subst (λ n. FirstBad IsSlotTree (λ t. IsBadSlot t a) (map view entries) n) (sym bad.1)
      (bad_at IsSlotTree (λ t. IsBadSlot t a) entries values k entry within at-entry before bad.2),
)

-- a frame that is bad
pub frame_bad : (entries : List Value) (values : List Frame) (k : ℕ) (entry : Value) → k < length entries → entry ≡ get_or entries k entry → SayEach IsFrameTree (map view (take k entries)) values → (f s a : ℕ) → BadFrameAt (view entry) k f s a → BadFrames (map view entries) f s a
frame_bad entries values k entry within at-entry before f s a bad =
    subst (λ n. FirstBad IsFrameTree (λ t. IsBadFrame t s a) (map view entries) n) (sym bad.0)
    (bad_at IsFrameTree (λ t. IsBadFrame t s a) entries values k entry within at-entry before bad.1)

-- the slots of a frame that are bad
pub slots_bad : (tree : Data) (slots : List Data) (frame : ℕ) → IsFrameOf tree slots → (f s a : ℕ) → BadSlots slots frame f s a → BadFrameAt tree frame f s a
slots_bad tree slots frame of f s a bad = (bad.0, frame_at slots s a of bad.1)

-- the frames of a schedule that are bad
pub frames_bad : (tree : Data) (frames : List Data) → HasFrames tree frames → (f s a : ℕ) → BadFrames frames f s a → IsBadSchedule tree f s a
frames_bad tree frames has f s a bad = schedule_at frames f s a has bad

pub no_frame : (tree : Data) → ((slots : List Data) → IsFrameOf tree slots → ⊥) → IsBadFrame tree 0 0
no_frame tree none = frame_shape none

pub no_schedule : (tree : Data) → ((frames : List Data) → HasFrames tree frames → ⊥) → IsBadSchedule tree 0 0 0
no_schedule tree none = schedule_shape none

-- the text is answered as its tree is
pub text_answers : (bytes : List ℕ) (tree : Data) (r : Result Schedule ResultFault) → IsTextOf bytes tree → IsOfVersionOne tree → Places (IsScheduleTree tree) (IsBadSchedule tree) r → ScheduleAnswers bytes r
text_answers bytes tree (Ok schedule) text version answer =
    record { tree = tree; text = text; version = version; form = answer }
text_answers bytes tree (Err (NetlistLex e)) text version answer = answer
text_answers bytes tree (Err (NetlistForm t)) text version answer = answer
text_answers bytes tree (Err (NetlistShape c n)) text version answer = answer
text_answers bytes tree (Err ScheduleNotJson) text version answer = absurd answer
text_answers bytes tree (Err ScheduleVersion) text version answer = absurd answer
text_answers bytes tree (Err (ScheduleForm f s a)) text version answer = record { tree = tree; text = text; is = (version, answer) }
text_answers bytes tree (Err MapNotJson) text version answer = answer
text_answers bytes tree (Err MapVersion) text version answer = answer
text_answers bytes tree (Err (MapForm e)) text version answer = answer
text_answers bytes tree (Err NoMemory) text version answer = answer

-- the parts that were found make the frame
pub frame_parts : (tree : Data) (name : List ℕ) (slots : List Data) → HasMember (codes "group") (string name) tree × HasMember (codes "slots") (list slots) tree × AreFew slots → IsFrameOf tree slots
frame_parts tree name slots parts = record { name = name; group = parts.0; there = parts.1; few = parts.2 }
