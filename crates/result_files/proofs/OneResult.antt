-- A text stands for at most one schedule, and for at most one map of the same chips.
use Rattle.std.proofs.Common.{◌≡◌, ℕ, List, [], ◌∷◌, Option, Some, None, if◌then◌else◌, refl, sym, ap, ◌∙◌, subst}
use Rattle.std.specs.Prelude.{codes}
use Rattle.std.specs.Str.{bytes_eq}
use Rattle.std.specs.List.{zip}
use Rattle.std.proofs.lemmas.Option.{same_Some}
use Rattle.serde_json.specs.Data.{Data, string}
use Rattle.emu_machine.specs.declared.map.ChipMap.{ChipMap}
use Rattle.emu_machine.specs.declared.map.StateMap.{StateMap}
use Rattle.emu_machine.specs.declared.netlist.Chip.{Chip}
use Rattle.emu_machine.specs.declared.schedule.Action.{Action}
use Rattle.emu_machine.specs.declared.schedule.Action.TheVariants.{Input, Load, Send, Write, Read}
use Rattle.emu_machine.specs.declared.schedule.Frame.{Frame}
use Rattle.emu_machine.specs.declared.schedule.Schedule.{Schedule}
use Rattle.emu_machine.specs.declared.schedule.Slot.{Slot}
use Rattle.result_files.specs.Trees.{whole}
use Rattle.result_files.specs.Lists.{SayEach}
use Rattle.result_files.specs.Rows.{Row}
use Rattle.result_files.specs.Schedule.{action_row, IsActionTree, IsSlotTree, IsFrameTree, IsScheduleTree, SchedulesAreToldApart}
use Rattle.result_files.specs.Map.{IsSpotTree, SaysEntry, IsMapTree, IsOfVersion, MapsAreToldApart}
use Rattle.result_files.proofs.Entries.{says_same}
use Rattle.result_files.proofs.Inside.{same_tree}
use Rattle.result_files.proofs.MapLemmas.{same_row, one_entry, one_spot, same_entries}
use Rattle.result_files.proofs.Schedules.{one_list, one_member}

two_numbers : (ℕ → ℕ → Action) → List ℕ → Option Action
two_numbers make (n ∷ m ∷ []) = Some (make n m)
two_numbers make other = None

three_numbers : (ℕ → ℕ → ℕ → Action) → List ℕ → Option Action
three_numbers make (n ∷ m ∷ k ∷ []) = Some (make n m k)
three_numbers make other = None

-- the action that a row writes
action_back : Row → Option Action
action_back (name, numbers) =
    if bytes_eq name (codes "input") then three_numbers (λ c r n. Input (record { place = c }) (record { place = r }) (record { place = n })) numbers
    else if bytes_eq name (codes "load") then two_numbers (λ c r. Load (record { place = c }) (record { place = r })) numbers
    else if bytes_eq name (codes "send") then three_numbers (λ w n r. Send (record { place = w }) (record { place = n }) (record { place = r })) numbers
    else if bytes_eq name (codes "write") then three_numbers (λ c m p. Write (record { place = c }) (record { place = m }) p) numbers
    else three_numbers (λ c m p. Read (record { place = c }) (record { place = m }) p) numbers

back_is : (a : Action) → action_back (action_row a) ≡ Some a
unfolding action_back two_numbers three_numbers
back_is (Input c r n) = refl
back_is (Load c r) = refl
back_is (Send w n r) = refl
back_is (Write c m p) = refl
back_is (Read c m p) = refl

one_action : (tree : Data) (v w : Action) → IsActionTree tree v → IsActionTree tree w → v ≡ w
one_action tree v w a b =
    same_Some v w (sym (back_is v) ∙ ap action_back (same_row tree (action_row v) (action_row w) a b) ∙ back_is w)

one_slot : (tree : Data) (v w : Slot) → IsSlotTree tree v → IsSlotTree tree w → v ≡ w
one_slot tree v w a b =
    let actions = one_list IsActionTree one_action tree v.actions w.actions a b in
    λ i. record { actions = actions i }

one_frame : (tree : Data) (v w : Frame) → IsFrameTree tree v → IsFrameTree tree w → v ≡ w
one_frame tree v w a b =
    let names = same_Some (string v.group) (string w.group) (sym a.group ∙ b.group) in
    let groups : v.group ≡ w.group = cc in
    let slots = one_member _ IsSlotTree one_slot tree v.slots w.slots a.slots b.slots in
    λ i. record { group = groups i; slots = slots i }

one_schedule : (tree : Data) (v w : Schedule) → IsScheduleTree tree v → IsScheduleTree tree w → v ≡ w
one_schedule tree v w a b =
    let frames = one_member _ IsFrameTree one_frame tree v.frames w.frames a b in
    λ i. record { frames = frames i }

pub one_schedule_said : SchedulesAreToldApart
one_schedule_said bytes v w a b =
    one_schedule b.tree v w (subst (λ t. IsScheduleTree t v) (same_tree bytes a.tree b.tree a.text b.text) a.form) b.form

one_fitting : (version : ℕ) (of : Chip × Data) (v w : ChipMap) → SaysEntry version of v → SaysEntry version of w → v ≡ w
one_fitting version of v w a b = one_entry of.1 v w a.form b.form

one_map : (version : ℕ) (chips : List Chip) (tree : Data) (v w : StateMap) → IsMapTree version chips tree v → IsMapTree version chips tree w → v ≡ w
one_map version chips tree v w a b =
    let trees = same_entries tree b.trees a.trees b.entries a.entries in
    let entries = says_same (SaysEntry version) (one_fitting version) (zip chips a.trees) v.chips w.chips a.each
    (subst (λ ts. SayEach (SaysEntry version) (zip chips ts) w.chips) trees b.each) in
    let outputs = one_member _ IsSpotTree one_spot tree v.outputs w.outputs a.outputs b.outputs in
    λ i. record { chips = entries i; outputs = outputs i }

one_version : (tree : Data) (n m : ℕ) → IsOfVersion tree n → IsOfVersion tree m → n ≡ m
one_version tree n m a b =
    let wholes = same_Some (whole n) (whole m) (sym a.member ∙ b.member) in
    cc

pub one_map_said : MapsAreToldApart
one_map_said bytes chips v w a b =
    let trees = same_tree bytes a.tree b.tree a.text b.text in
    let there = subst (λ t. IsOfVersion t a.version) trees a.version_is in
    let versions = one_version b.tree a.version b.version there b.version_is in
    let form = subst (λ t. IsMapTree a.version chips t v) trees a.form in
    one_map b.version chips b.tree v w (subst (λ n. IsMapTree n chips b.tree v) versions form) b.form
