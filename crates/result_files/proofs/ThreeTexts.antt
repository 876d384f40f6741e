-- What stands where three texts have no fault.
use Rattle.std.proofs.Common.{◌≡◌, ℕ, zero, suc, List, [], ◌∷◌, Ok, Some, length, slice_get, refl, sym, ap, ◌∙◌, subst, arith}
use Rattle.std.specs.List.{zip}
use Rattle.std.proofs.lemmas.Option.{same_Some}
use Rattle.std.proofs.lemmas.Slice.Zip.{length-zip}
use Rattle.serde_json.specs.Data.{Data}
use Rattle.verilog_lex.specs.Reads.{EachTextHasOneAnswer}
use Rattle.token_words.specs.Words.{words_of}
use Rattle.emu_machine.specs.declared.map.ChipMap.{ChipMap}
use Rattle.emu_machine.specs.declared.netlist.Chip.{Chip}
use Rattle.emu_machine.specs.declared.schedule.Schedule.{Schedule}
use Rattle.emu_machine.specs.Netlist.{IsNetlist}
use Rattle.emu_machine.specs.Results.{ChipEntryFits, MapFits, Results, ResultsStand, SlotsFit}
use Rattle.netlist_reader.specs.Netlist.{NetlistsAreToldApart, SaysChips}
use Rattle.result_files.specs.Lists.{SayEach}
use Rattle.result_files.specs.Map.{IsMapTree, SaysEntry, SaysMap}
use Rattle.result_files.specs.Schedule.{IsFrameTree, IsSlotTree, SaysSchedule}
use Rattle.result_files.specs.ThreeTexts.{ResultsAreToldApart, SaysNet, IsNetlistText}
use Rattle.result_files.proofs.Entries.{said}
use Rattle.result_files.proofs.OneResult.{one_map_said, one_schedule_said}

-- the netlist that was built of the chips
pub net_said : (bytes : List ℕ) (chips net : List Chip) → IsNetlistText bytes chips → (net ≡ chips) × IsNetlist chips → SaysNet bytes net
net_said bytes chips net says built = record {
  says = subst (λ cs. IsNetlistText bytes cs) (sym built.0) says;
  driven = subst IsNetlist (sym built.0) built.1;
}

-- there are as many values as things
as_many_said : {X A : Type 0} (Says : X → A → Type 0) (things : List X) (values : List A) → SayEach Says things values → length values ≡ length things
as_many_said Says [] [] each = refl
as_many_said Says [] (v ∷ vs) each = absurd each
as_many_said Says (t ∷ ts) [] each = absurd each
as_many_said Says (t ∷ ts) (v ∷ vs) each = ap suc (as_many_said Says ts vs each.1)

-- each chip has an entry with its counts
entry_counts : (version : ℕ) (chips : List Chip) (trees : List Data) (entries : List ChipMap) (c : ℕ) (chip : Chip) (entry : ChipMap) → SayEach (SaysEntry version) (zip chips trees) entries → slice_get chips c ≡ Some chip → slice_get entries c ≡ Some entry → ChipEntryFits chip entry
entry_counts version [] trees entries c chip entry each at-chip at-entry = cc
entry_counts version (x ∷ xs) [] [] c chip entry each at-chip at-entry = cc
entry_counts version (x ∷ xs) [] (e ∷ es) c chip entry each at-chip at-entry = absurd each
entry_counts version (x ∷ xs) (t ∷ ts) [] c chip entry each at-chip at-entry = absurd each
entry_counts version (x ∷ xs) (t ∷ ts) (e ∷ es) zero chip entry each at-chip at-entry =
    subst (λ a. ChipEntryFits a entry) (same_Some x chip at-chip) (subst (λ b. ChipEntryFits x b) (same_Some e entry at-entry) each.0.fits.counts)
entry_counts version (x ∷ xs) (t ∷ ts) (e ∷ es) (suc c) chip entry each at-chip at-entry = entry_counts version xs ts es c chip entry each.1 at-chip at-entry

-- a map that was read fits its netlist
map_fits : (version : ℕ) (tree : Data) (r : Results) → IsMapTree version r.net tree r.map → MapFits r
map_fits version tree r is = record {
  count = (let many = as_many_said (SaysEntry version) (zip r.net is.trees) r.map.chips is.each in let pairs = length-zip r.net is.trees in let count = is.count in omega arith);
  chips = λ c chip entry at-chip at-entry. entry_counts version r.net is.trees r.map.chips c chip entry is.each at-chip at-entry;
  outputs = is.exist;
}

-- the actions of a slot that was read can be numbered
slots_fit : (bytes : List ℕ) (schedule : Schedule) → SaysSchedule bytes schedule → SlotsFit schedule
slots_fit bytes schedule says k t frame slot at-frame at-slot =
    let framed = said IsFrameTree says.form.is.trees schedule.frames k frame says.form.is.each at-frame in
    let slots = framed.1.slots.is in
    let slotted = said IsSlotTree slots.trees frame.slots t slot slots.each at-slot in
    let few = slotted.1.few in
    let many = as_many_said _ slotted.1.trees slot.actions slotted.1.each in
    omega arith

-- what was read stands together
pub all_stand : (r : Results) (schedule map : List ℕ) (chips : List Chip) → SaysSchedule schedule r.schedule → SaysMap map chips r.map → chips ≡ r.net → ResultsStand r
all_stand r schedule map chips scheduled mapped same = record {
  mapped = map_fits mapped.version mapped.tree r (subst (λ cs. IsMapTree mapped.version cs mapped.tree r.map) same mapped.form);
  slots = slots_fit schedule r.schedule scheduled;
}

-- a text is the netlist of at most one list of chips
one_net : EachTextHasOneAnswer → NetlistsAreToldApart → (bytes : List ℕ) (v w : List Chip) → IsNetlistText bytes v → IsNetlistText bytes w → v ≡ w
one_net answers apart bytes v w a b =
    let one = answers bytes in
    let same : Ok a.tokens ≡ Ok b.tokens = one.2 (Ok a.tokens) a.text ∙ sym (one.2 (Ok b.tokens) b.text) in
    let tokens : a.tokens ≡ b.tokens = cc in
    apart (words_of bytes b.tokens) v w (subst (λ ts. SaysChips (words_of bytes ts) v) tokens a.says) b.says

-- three texts stand for at most one result
pub one_result : EachTextHasOneAnswer → NetlistsAreToldApart → ResultsAreToldApart
one_result answers apart netlist schedule map v w a b =
    let nets = one_net answers apart netlist v.net w.net a.net_is.says b.net_is.says in
    let schedules = one_schedule_said schedule v.schedule w.schedule a.schedule_is b.schedule_is in
    let maps = one_map_said map w.net v.map w.map (subst (λ n. SaysMap map n v.map) nets a.map_is) b.map_is in
    λ i. record { net = nets i; schedule = schedules i; map = maps i }
