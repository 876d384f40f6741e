-- What is read is within the forms.
use Rattle.std.proofs.Common.{◌≡◌, ◌≤◌, ◌<◌, ◌^◌, ℕ, zero, suc, List, [], ◌∷◌, Some, length, slice_get, refl, sym, ap, ◌∙◌, subst, arith}
use Rattle.std.specs.List.{zip}
use Rattle.serde_json.specs.Data.{Data}
use Rattle.emu_machine.specs.declared.map.ChipMap.{ChipMap}
use Rattle.emu_machine.specs.declared.map.MemMap.{MemMap}
use Rattle.emu_machine.specs.declared.map.StateMap.{StateMap}
use Rattle.emu_machine.specs.declared.netlist.Chip.{Chip}
use Rattle.emu_machine.specs.declared.schedule.Frame.{Frame}
use Rattle.emu_machine.specs.declared.schedule.Schedule.{Schedule}
use Rattle.emu_machine.specs.declared.schedule.Slot.{Slot}
use Rattle.emu_machine.specs.Results.{ChipEntryFits}
use Rattle.result_files.specs.Lists.{HasList, IsListOf, SayEach}
use Rattle.result_files.specs.Map.{IsEntryTree, IsMapTree, SaysEntry, SaysMap}
use Rattle.result_files.specs.Schedule.{IsFrameTree, IsSlotTree, SaysSchedule}
use Rattle.results_law.specs.ReadBack.{EntryFits, FrameFits, IsMapOf, IsNumbered, MapFits, MemoryFits, ScheduleFits, SlotFits, WhatIsReadFits}

-- as many values as things, and each value is said by one of them
sizes : {X A : Type 0} (Says : X → A → Type 0) (ts : List X) (xs : List A) → SayEach Says ts xs → length xs ≡ length ts
sizes Says [] [] said = refl
sizes Says [] (x ∷ xs) said = absurd said
sizes Says (t ∷ ts) [] said = absurd said
sizes Says (t ∷ ts) (x ∷ xs) said = ap suc (sizes Says ts xs said.1)

said_at : {X A : Type 0} (Says : X → A → Type 0) (ts : List X) (xs : List A) (k : ℕ) (x : A) → SayEach Says ts xs → slice_get xs k ≡ Some x → (t : X) × Says t x
said_at Says [] [] k x said e = cc
said_at Says [] (y ∷ ys) k x said e = absurd said
said_at Says (t ∷ ts) [] k x said e = absurd said
said_at Says (t ∷ ts) (y ∷ ys) zero x said e = (t, (let same : y ≡ x = cc in subst (Says t) same said.0))
said_at Says (t ∷ ts) (y ∷ ys) (suc k) x said e = said_at Says ts ys k x said.1 e

few_of : {A : Type 0} (Says : Data → A → Type 0) (tree : Data) (xs : List A) → IsListOf Says tree xs → IsNumbered xs
few_of Says tree xs is = (let size = sizes Says is.trees xs is.each in let few = is.few in omega arith)

slot_fits : (tree : Data) (slot : Slot) → IsSlotTree tree slot → SlotFits slot
slot_fits tree slot is = record {
  few = few_of _ tree slot.actions is;
  actions = λ k a e. (said_at _ is.trees slot.actions k a is.each e).1.fit;
}

frame_fits : (tree : Data) (frame : Frame) → IsFrameTree tree frame → FrameFits frame
frame_fits tree frame is = record {
  few = few_of _ is.slots.member frame.slots is.slots.is;
  slots = λ k s e. (let said = said_at _ is.slots.is.trees frame.slots k s is.slots.is.each e in slot_fits said.0 s said.1);
}

schedule_fits : (bytes : List ℕ) (schedule : Schedule) → SaysSchedule bytes schedule → ScheduleFits schedule
schedule_fits bytes schedule is = record {
  few = few_of _ is.form.member schedule.frames is.form.is;
  frames = λ k f e. (let said = said_at _ is.form.is.trees schedule.frames k f is.form.is.each e in frame_fits said.0 f said.1);
}

entry_fits : (tree : Data) (entry : ChipMap) → IsEntryTree tree entry → EntryFits entry
entry_fits tree entry is = record {
  few_nets = few_of _ is.nets.member entry.nets is.nets.is;
  nets = λ k s e. (said_at _ is.nets.is.trees entry.nets k s is.nets.is.each e).1.fit;
  few_registers = few_of _ is.registers.member entry.kept is.registers.is;
  few_memories = few_of _ is.memories.member entry.memories is.memories.is;
  memories = λ k m e.
      let said = said_at _ is.memories.is.trees entry.memories k m is.memories.is.each e in
      record { of = said.1.of_fits; few = few_of _ said.1.reads.member m.kept said.1.reads.is };
}

-- the entries of chips, one by one
entries_fit : (version : ℕ) (chips : List Chip) (trees : List Data) (xs : List ChipMap) → length trees ≡ length chips → SayEach (SaysEntry version) (zip chips trees) xs
    → (length xs ≡ length chips) × ((c : ℕ) (chip : Chip) (entry : ChipMap) → slice_get chips c ≡ Some chip → slice_get xs c ≡ Some entry → ChipEntryFits chip entry) × ((c : ℕ) (entry : ChipMap) → slice_get xs c ≡ Some entry → EntryFits entry)
entries_fit version [] [] [] size said = (refl, (λ c chip entry e f. cc), (λ c entry e. cc))
entries_fit version [] [] (x ∷ xs) size said = absurd said
entries_fit version [] (t ∷ ts) xs size said = absurd (omega arith)
entries_fit version (c ∷ cs) [] xs size said = absurd (omega arith)
entries_fit version (c ∷ cs) (t ∷ ts) [] size said = absurd said
entries_fit version (c ∷ cs) (t ∷ ts) (x ∷ xs) size said =
    let rest = entries_fit version cs ts xs (omega arith) said.1 in
    (ap suc rest.0, counts rest.1, each rest.2)
  where
    counts : ((k : ℕ) (chip : Chip) (entry : ChipMap) → slice_get cs k ≡ Some chip → slice_get xs k ≡ Some entry → ChipEntryFits chip entry) → (k : ℕ) (chip : Chip) (entry : ChipMap) → slice_get (c ∷ cs) k ≡ Some chip → slice_get (x ∷ xs) k ≡ Some entry → ChipEntryFits chip entry
    counts more zero chip entry e f =
        let first : c ≡ chip = cc in
        let second : x ≡ entry = cc in
        subst (λ d. ChipEntryFits d entry) first (subst (ChipEntryFits c) second said.0.fits.counts)
    counts more (suc k) chip entry e f = more k chip entry e f

    each : ((k : ℕ) (entry : ChipMap) → slice_get xs k ≡ Some entry → EntryFits entry) → (k : ℕ) (entry : ChipMap) → slice_get (x ∷ xs) k ≡ Some entry → EntryFits entry
    each more zero entry e = (let same : x ≡ entry = cc in subst EntryFits same (entry_fits t x said.0.form))
    each more (suc k) entry e = more k entry e

map_fits : (bytes : List ℕ) (chips : List Chip) (m : StateMap) → SaysMap bytes chips m → MapFits m × IsMapOf chips m
map_fits bytes chips m is =
    let entries = entries_fit is.version chips is.form.trees m.chips is.form.count is.form.each in
    let size = entries.0 in
    let same = is.form.count in
    let few = is.form.entries.few in (
      record {
        few_chips = omega arith;
        chips = entries.2;
        few_outputs = few_of _ is.form.outputs.member m.outputs is.form.outputs.is;
        outputs = λ k s e.
            let said = said_at _ is.form.outputs.is.trees m.outputs k s is.form.outputs.is.each e in
            record { chip = said.1.chip_fits; net = said.1.net_fits };
      },
      record { count = entries.0; entries = entries.1; outputs = is.form.exist },
    )

pub read_fits : WhatIsReadFits
read_fits netlist schedule map results is formed named =
    let fits = schedule_fits schedule results.schedule is.schedule_is in
    let mapped = map_fits map results.net results.map is.map_is in
    record {
      built = record { formed = formed; netlist = is.net_is.driven };
      stand = record {
        mapped = record { count = mapped.1.count; chips = mapped.1.entries; outputs = mapped.1.outputs };
        slots = λ k t frame slot e f. ((fits.frames k frame e).slots t slot f).few;
      };
      nets = λ c chip e. (is.net_is.says.says.forms c chip e).few;
      schedule = fits;
      named = named;
      map = mapped.0;
    }
