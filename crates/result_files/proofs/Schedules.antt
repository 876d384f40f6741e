-- What texts of schedules say.
use Rattle.std.proofs.Common.{◌≡◌, ℕ, List, [], ◌∷◌, Some, slice_get, Result, Ok, Err, sym, ap, ◌∙◌, subst}
use Rattle.std.specs.Prelude.{Contains, IfOk, codes}
use Rattle.std.proofs.lemmas.Option.{same_Some, slice_get-get_or}
use Rattle.serde_json.specs.Data.{Data, string}
use Rattle.json_members.specs.JsonText.{IsTextOf}
use Rattle.emu_machine.specs.declared.schedule.Action.{Action}
use Rattle.emu_machine.specs.declared.schedule.Action.TheVariants.{Input, Load, Send, Write, Read}
use Rattle.emu_machine.specs.declared.schedule.Frame.{Frame}
use Rattle.emu_machine.specs.declared.schedule.Schedule.{Schedule}
use Rattle.emu_machine.specs.declared.schedule.Slot.{Slot}
use Rattle.emu_machine.specs.Plain.{IsInput, IsPlainSchedule}
use Rattle.result_files.specs.Faults.{Answers}
use Rattle.result_files.specs.Lists.{SayEach, IsListOf, HasList}
use Rattle.result_files.specs.Trees.{whole}
use Rattle.result_files.specs.PlainSchedule.{IsActionTree, IsSlotTree, IsFrameTree, IsScheduleTree, SaysSchedule, TextsTellSchedulesApart}
use Rattle.result_files.specs.declared.fault.FormFault.{FormFault}
use Rattle.result_files.proofs.Entries.{said, says_same}
use Rattle.result_files.proofs.Inside.{same_list, same_tree}
use Rattle.result_files.proofs.Refusals.{same_answer}

-- a text is answered as its tree is
pub text_answered : (bytes : List ℕ) (tree : Data) (r : Result Schedule FormFault) → IsTextOf bytes tree → Answers (IsScheduleTree tree) r → Answers (SaysSchedule bytes) r
text_answered bytes tree r text answer =
    same_answer (IsScheduleTree tree) (SaysSchedule bytes) r
    (λ s form. record { tree = tree; text = text; form = form })
    (λ s says. subst (λ t. IsScheduleTree t s) (same_tree bytes says.tree tree says.text text) says.form)
    answer

pub at_place : {A : Type 0} (xs : List A) (x : A) → Contains xs x → (k : ℕ) × (slice_get xs k ≡ Some x)
at_place xs x c = (c.0, slice_get-get_or xs c.0 x c.1 ∙ ap Some c.2)

is_input : (tree : Data) (action : Action) → IsActionTree tree action → IsInput action
is_input tree (Input c r n) is = tt
is_input tree (Load c r) is = is
is_input tree (Send w n r) is = is
is_input tree (Write c m p) is = is
is_input tree (Read c m p) is = is

plain : (tree : Data) (schedule : Schedule) → IsScheduleTree tree schedule → IsPlainSchedule schedule
plain tree schedule is = λ frame slot action in-frames in-slots in-actions.
    let f = at_place schedule.frames frame in-frames in
    let s = at_place frame.slots slot in-slots in
    let a = at_place slot.actions action in-actions in
    let frame-said = said IsFrameTree is.frames.is.trees schedule.frames f.0 frame is.frames.is.each f.1 in
    let slots = frame-said.1.slots.is in
    let slot-said = said IsSlotTree slots.trees frame.slots s.0 slot slots.each s.1 in
    let actions = slot-said.1 in
    let action-said = said IsActionTree actions.trees slot.actions a.0 action actions.each a.1 in
    is_input action-said.0 action action-said.1

-- what is read is plain
pub read_plain : (tree : Data) (r : Result Schedule FormFault) → Answers (IsScheduleTree tree) r → IfOk r IsPlainSchedule
read_plain tree (Ok schedule) answer = plain tree schedule answer
read_plain tree (Err fault) answer = tt

pub one_list : {A : Type 0} (Says : Data → A → Type 0) → ((tree : Data) (v w : A) → Says tree v → Says tree w → v ≡ w) → (tree : Data) (vs ws : List A) → IsListOf Says tree vs → IsListOf Says tree ws → vs ≡ ws
one_list Says one tree vs ws a b =
    says_same Says one a.trees vs ws a.each
    (subst (λ ts. SayEach Says ts ws) (same_list b.trees a.trees (sym b.tree_is ∙ a.tree_is)) b.each)

pub one_member : {A : Type 0} (key : List ℕ) (Says : Data → A → Type 0) → ((tree : Data) (v w : A) → Says tree v → Says tree w → v ≡ w) → (tree : Data) (vs ws : List A) → HasList key Says tree vs → HasList key Says tree ws → vs ≡ ws
one_member key Says one tree vs ws a b =
    one_list Says one a.member vs ws a.is
    (subst (λ d. IsListOf Says d ws) (same_Some b.member a.member (sym b.there ∙ a.there)) b.is)

one_action : (tree : Data) (v w : Action) → IsActionTree tree v → IsActionTree tree w → v ≡ w
one_action tree (Input c r n) (Input d s m) a b =
    let lists = same_list
    (string (codes "input") ∷ whole c.place ∷ whole r.place ∷ whole n.place ∷ [])
    (string (codes "input") ∷ whole d.place ∷ whole s.place ∷ whole m.place ∷ [])
    (sym a.tree_is ∙ b.tree_is) in
    let chips : c.place ≡ d.place = cc in
    let registers : r.place ≡ s.place = cc in
    let nets : n.place ≡ m.place = cc in
    λ i. Input (record { place = chips i }) (record { place = registers i }) (record { place = nets i })
one_action tree (Input c r n) (Load d s) a b = absurd b
one_action tree (Input c r n) (Send x m s) a b = absurd b
one_action tree (Input c r n) (Write d m p) a b = absurd b
one_action tree (Input c r n) (Read d m p) a b = absurd b
one_action tree (Load c r) w a b = absurd a
one_action tree (Send x n r) w a b = absurd a
one_action tree (Write c m p) w a b = absurd a
one_action tree (Read c m p) w a b = absurd a

one_slot : (tree : Data) (v w : Slot) → IsSlotTree tree v → IsSlotTree tree w → v ≡ w
one_slot tree v w a b =
    let actions = one_list IsActionTree one_action tree v.actions w.actions a b in
    λ i. record { actions = actions i }

one_frame : (tree : Data) (v w : Frame) → IsFrameTree tree v → IsFrameTree tree w → v ≡ w
one_frame tree v w a b =
    let names = same_Some (string v.group) (string w.group) (sym a.group ∙ b.group) in
    let group : v.group ≡ w.group = cc in
    let slots = one_member _ IsSlotTree one_slot tree v.slots w.slots a.slots b.slots in
    λ i. record { group = group i; slots = slots i }

-- a text says one schedule
pub one_schedule : TextsTellSchedulesApart
one_schedule bytes v w a b =
    let trees = same_tree bytes a.tree b.tree a.text b.text in
    let there = subst (λ t. IsScheduleTree t v) trees a.form in
    let frames = one_member _ IsFrameTree one_frame b.tree v.frames w.frames there.frames b.form.frames in
    λ i. record { frames = frames i }
