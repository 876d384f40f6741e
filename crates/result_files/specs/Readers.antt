-- Inside: what the readers of parts of schedules and maps answer.
use Rattle.std.specs.Prelude.{◌≡◌, ◌<◌, ℕ, List, Some, Result, Ok, Err, slice_get}
use Rattle.serde_json.specs.Data.{Data}
use Rattle.emu_machine.specs.declared.map.MemMap.{MemMap}
use Rattle.emu_machine.specs.declared.map.Spot.{Spot}
use Rattle.emu_machine.specs.declared.netlist.Chip.{Chip}
use Rattle.emu_machine.specs.declared.netlist.EmuMemory.{EmuMemory}
use Rattle.emu_machine.specs.Results.{MemoryEntryFits}
use Rattle.emu_machine.specs.Netlist.{chip_at}
use Rattle.result_files.specs.Lists.{SayEach, SaysNone, FirstBad}
use Rattle.result_files.specs.Schedule.{IsSlotTree, IsFrameTree, IsBadSlot, IsBadFrame}
use Rattle.result_files.specs.declared.told.ListFault.{ListFault}
use Rattle.result_files.specs.declared.told.ListFault.TheVariants as list
use Rattle.result_files.specs.declared.result_fault.ResultFault.{ResultFault}
use Rattle.result_files.specs.declared.result_fault.ResultFault.TheVariants.{ScheduleForm, MapForm, NoMemory}

-- what the trees of a list say, or the first that says nothing
abbrev pub ListAnswers : {A : Type 0} → (Data → A → Type 0) → List Data → Result (List A) ListFault → Type 0
ListAnswers Says trees (Ok values) = SayEach Says trees values
ListAnswers Says trees (Err (list.Bad k)) = FirstBad Says (SaysNone Says) trees k
ListAnswers Says trees (Err list.NoMemory) = Unit {0}

-- a value that has the form, or the place of the first action that is bad
abbrev pub Places : {A : Type 0} → (A → Type 0) → (ℕ → ℕ → ℕ → Type 0) → Result A ResultFault → Type 0
Places HasForm IsBad (Ok value) = HasForm value
Places HasForm IsBad (Err (ScheduleForm frame slot action)) = IsBad frame slot action
Places HasForm IsBad (Err NoMemory) = Unit {0}
Places HasForm IsBad (Err other) = ⊥

abbrev pub BadSlotAt : Data → ℕ → ℕ → ℕ → ℕ → ℕ → Type 0
BadSlotAt tree frame slot f s a = (f ≡ frame) × (s ≡ slot) × IsBadSlot tree a

abbrev pub BadSlots : List Data → ℕ → ℕ → ℕ → ℕ → Type 0
BadSlots trees frame f s a = (f ≡ frame) × FirstBad IsSlotTree (λ t. IsBadSlot t a) trees s

abbrev pub BadFrameAt : Data → ℕ → ℕ → ℕ → ℕ → Type 0
BadFrameAt tree frame f s a = (f ≡ frame) × IsBadFrame tree s a

abbrev pub BadFrames : List Data → ℕ → ℕ → ℕ → Type 0
BadFrames trees f s a = FirstBad IsFrameTree (λ t. IsBadFrame t s a) trees f

-- a value that has the form, or the chip at which a map is bad
abbrev pub Chips : {A : Type 0} → (A → Type 0) → (ℕ → Type 0) → Result A ResultFault → Type 0
Chips HasForm IsBad (Ok value) = HasForm value
Chips HasForm IsBad (Err (MapForm entry)) = IsBad entry
Chips HasForm IsBad (Err NoMemory) = Unit {0}
Chips HasForm IsBad (Err other) = ⊥

-- each memory's entry has a Boolean for each read port
abbrev pub ReadsFit : List EmuMemory → List MemMap → Type 0
ReadsFit memories entries =
    (m : ℕ) (memory : EmuMemory) (of : MemMap) → slice_get memories m ≡ Some memory → slice_get entries m ≡ Some of → MemoryEntryFits memory of

-- this net is there
abbrev pub IsThere : List Chip → Spot → Type 0
IsThere chips spot = spot.net.place < (chip_at chips spot.chip.place).nets
