-- What is printed is read back.
-- The rules are told in docs/FORMATS.md, "The netlist", "The schedule" and "The map".
use Rattle.std.specs.Prelude.{◌≡◌, ◌<◌, ◌≤◌, ◌^◌, ℕ, List, Some, length, slice_get}
use Rattle.emu_machine.specs.declared.map.ChipMap.{ChipMap}
use Rattle.emu_machine.specs.declared.map.MemMap.{MemMap}
use Rattle.emu_machine.specs.declared.map.Spot.{Spot}
use Rattle.emu_machine.specs.declared.map.StateMap.{StateMap}
use Rattle.emu_machine.specs.declared.map.Subject.{Subject}
use Rattle.emu_machine.specs.declared.netlist.Chip.{Chip}
use Rattle.emu_machine.specs.declared.schedule.Action.{Action}
use Rattle.emu_machine.specs.declared.schedule.Frame.{Frame}
use Rattle.emu_machine.specs.declared.schedule.Schedule.{Schedule}
use Rattle.emu_machine.specs.declared.schedule.Slot.{Slot}
use Rattle.emu_machine.specs.Building.{AreChips, IsBuilt}
use Rattle.emu_machine.specs.Results.{ChipEntryFits, Results, ResultsStand}
use Rattle.netlist_writer.specs.NetlistText.{netlist_text}
use Rattle.result_files.specs.Trees.{IsWord}
use Rattle.result_files.specs.Rows.{AreWords}
use Rattle.result_files.specs.Schedule.{SaysSchedule, action_row}
use Rattle.result_files.specs.Map.{AreThere, SaysMap, subject_row}
use Rattle.result_files.specs.ThreeTexts.{IsNetlistText, StandsFor}
use Rattle.result_files.specs.Printed.{AreAll, AreNamed, map_text, schedule_text}

-- there are so few that they can be numbered with 32 bits
abbrev pub IsNumbered : {A : Type 0} → List A → Type 0
IsNumbered items = length items ≤ 4294967295

-- the numbers of an action have 32 bits
abbrev pub ActionFits : Action → Type 0
ActionFits action = AreWords (action_row action).1

pub record SlotFits (slot : Slot) : Type 0 where
  pub few : IsNumbered slot.actions
  pub actions : AreAll ActionFits slot.actions

pub record FrameFits (frame : Frame) : Type 0 where
  pub few : IsNumbered frame.slots
  pub slots : AreAll SlotFits frame.slots

-- a schedule within the forms: all numbers and counts have 32 bits
pub record ScheduleFits (schedule : Schedule) : Type 0 where
  pub few : IsNumbered schedule.frames
  pub frames : AreAll FrameFits schedule.frames

-- the text of a schedule whose groups have names in UTF-8 stands for it
abbrev pub SchedulesReadBack : Type 0
SchedulesReadBack =
    (schedule : Schedule) → ScheduleFits schedule → AreNamed schedule → SaysSchedule (schedule_text schedule) schedule

-- the numbers of a subject have 32 bits
abbrev pub SubjectFits : Subject → Type 0
SubjectFits subject = AreWords (subject_row subject).1

pub record MemoryFits (memory : MemMap) : Type 0 where
  pub of : IsWord memory.of.place
  pub few : IsNumbered memory.kept

pub record EntryFits (entry : ChipMap) : Type 0 where
  pub few_nets : IsNumbered entry.nets
  pub nets : AreAll SubjectFits entry.nets
  pub few_registers : IsNumbered entry.kept
  pub few_memories : IsNumbered entry.memories
  pub memories : AreAll MemoryFits entry.memories

pub record SpotFits (spot : Spot) : Type 0 where
  pub chip : IsWord spot.chip.place
  pub net : IsWord spot.net.place

-- a map within the forms: all numbers and counts have 32 bits
pub record MapFits (map : StateMap) : Type 0 where
  pub few_chips : IsNumbered map.chips
  pub chips : AreAll EntryFits map.chips
  pub few_outputs : IsNumbered map.outputs
  pub outputs : AreAll SpotFits map.outputs

-- the map has the counts of these chips, and its outputs are nets of them
pub record IsMapOf (chips : List Chip) (map : StateMap) : Type 0 where
  pub count : length map.chips ≡ length chips
  pub entries : (c : ℕ) (chip : Chip) (entry : ChipMap) → slice_get chips c ≡ Some chip → slice_get map.chips c ≡ Some entry → ChipEntryFits chip entry
  pub outputs : AreThere chips map.outputs

-- the text of a map stands for it
abbrev pub MapsReadBack : Type 0
MapsReadBack = (chips : List Chip) (map : StateMap) → MapFits map → IsMapOf chips map → SaysMap (map_text map) chips map

-- chips within the forms: of the forms of a netlist, and so many nets that they have numbers of 32 bits
pub record NetlistFits (chips : List Chip) : Type 0 where
  pub formed : AreChips chips
  pub nets : AreAll (λ (chip : Chip). chip.nets < 2 ^ 32) chips

-- the text of a netlist is the netlist of these chips
abbrev pub NetlistsReadBack : Type 0
NetlistsReadBack = (chips : List Chip) → NetlistFits chips → IsNetlistText (netlist_text chips) chips

-- Results within the forms: what holds of all results and of all netlists that were built; groups have names
-- in UTF-8, and all numbers and counts have 32 bits.
pub record ResultsFit (results : Results) : Type 0 where
  pub built : IsBuilt results.net
  pub stand : ResultsStand results
  pub nets : AreAll (λ (chip : Chip). chip.nets < 2 ^ 32) results.net
  pub schedule : ScheduleFits results.schedule
  pub named : AreNamed results.schedule
  pub map : MapFits results.map

-- The three printed texts of results within the forms stand for these results.
abbrev pub ResultsReadBack : Type 0
ResultsReadBack =
    (results : Results) → ResultsFit results → StandsFor (netlist_text results.net) (schedule_text results.schedule) (map_text results.map) results

-- What three texts stand for is within the forms, where its chips are of the forms of a netlist and its groups
-- have names in UTF-8: as `EmuNet` and `read_results` answer for.
abbrev pub WhatIsReadFits : Type 0
WhatIsReadFits =
    (netlist schedule map : List ℕ) (results : Results) → StandsFor netlist schedule map results → AreChips results.net → AreNamed results.schedule → ResultsFit results
