-- What texts stand for, one by one, and which faults they have.
-- The rules are told in docs/FORMATS.md, from "The design" to "Openings and events".
use Rattle.std.specs.Prelude.{ℕ, List, Result, Ok, Err}
use Rattle.id_arena.specs.BoardPlan.{BoardPlan}
use Rattle.cell_table.specs.declared.cell.Cell.{Cell}
use Rattle.cell_table.specs.Table.{Stands}
use Rattle.design_core.specs.declared.parts.Parts.{Parts}
use Rattle.design_core.specs.declared.values.Event.{Event}
use Rattle.design_core.specs.Dependency.{IsRanked}
use Rattle.domain_groups.specs.Events.{SaysEvents}
use Rattle.domain_groups.specs.Groups.{InputGroups}
use Rattle.domain_groups.specs.Openings.{PlainOpening, StandsForOpening}
use Rattle.emu_machine.specs.declared.map.StateMap.{StateMap}
use Rattle.emu_machine.specs.declared.netlist.Chip.{Chip}
use Rattle.result_files.specs.Map.{SaysMap}
use Rattle.result_files.specs.ThreeTexts.{HasNet, HasSchedule, SaysNet}
use Rattle.case_texts.specs.declared.refusal.EventsFault.{EventsFault}
use Rattle.case_texts.specs.declared.refusal.GroupsFault.{GroupsFault}
use Rattle.case_texts.specs.declared.refusal.OpeningsFault.{OpeningsFault}
use Rattle.case_texts.specs.declared.refusal.Refusal.{Refusal}
use Rattle.case_texts.specs.declared.refusal.Refusal.TheVariants as refusal
use Rattle.case_texts.specs.declared.refusal.Unread.{Unread}
use Rattle.case_texts.specs.declared.refusal.Unread.TheVariants as unread
use Rattle.case_texts.specs.declared.tree_text.Parsed.{Parsed}
use Rattle.case_texts.specs.declared.what.What.{What}
use Rattle.case_texts.specs.declared.what.What.TheVariants.{Design, Cells, Groups, Board, Netlist, Schedule, Map, Opening, Events}
use Rattle.case_texts.specs.Cycles.{HasCycle}
use Rattle.case_texts.specs.Faults.{HasBoardFault, HasCellsFault, HasDesignFault, HasEventsFault, HasFault, HasGroupsFault, HasMapFault, HasNetlistFault, HasOpeningFault, HasScheduleFault}
use Rattle.case_texts.specs.Forms.{HasCells, HasTree, IsTreeOf, SaysBoard, SaysDesign, SaysGroups}
use Rattle.case_texts.specs.What.{Texts}

-- ## By the answer of each reader

-- by the answer of reading a design text into its tree
abbrev pub TreeMeans : List ℕ → Result Parsed Unread → Type 0
TreeMeans text (Ok parsed) = IsTreeOf text parsed.tokens parsed.tree
TreeMeans text (Err (unread.Refused (refusal.Faulty fault))) = HasFault text fault.kind fault.at
TreeMeans text (Err (unread.Refused why)) = ⊥
TreeMeans text (Err unread.NoMemory) = Unit {0}

-- by the answer of reading a table of cells
abbrev pub CellsMean : List ℕ → Result (List Cell) Unread → Type 0
CellsMean text (Ok cells) = Stands text (Ok cells)
CellsMean text (Err (unread.Refused (refusal.Cells fault))) = HasCellsFault text fault
CellsMean text (Err (unread.Refused why)) = ⊥
CellsMean text (Err unread.NoMemory) = Unit {0}

-- by the answer of reading groups of a design
abbrev pub GroupsMean : Parts → List ℕ → Result InputGroups Unread → Type 0
GroupsMean p text (Ok v) = SaysGroups p text v
GroupsMean p text (Err (unread.Refused (refusal.Groups fault))) = HasGroupsFault p text fault
GroupsMean p text (Err (unread.Refused why)) = ⊥
GroupsMean p text (Err unread.NoMemory) = Unit {0}

-- by the answer of reading a board
abbrev pub BoardMeans : List ℕ → Result BoardPlan Unread → Type 0
BoardMeans text (Ok plan) = SaysBoard text plan
BoardMeans text (Err (unread.Refused (refusal.Board fault))) = HasBoardFault text fault
BoardMeans text (Err (unread.Refused why)) = ⊥
BoardMeans text (Err unread.NoMemory) = Unit {0}

-- ## What is read of texts

-- the texts say a design of which this holds
pub record OfDesign (top : List ℕ) (texts : Texts) (Holds : Parts → Type 0) : Type 0 where
  pub design : Parts
  pub says : SaysDesign top texts design
  pub holds : Holds design

-- the text of groups stands for some
abbrev pub HasGroups : Texts → Parts → Type 0
HasGroups texts p = (v : InputGroups) × SaysGroups p (texts Groups) v

-- the text of a map is one of the netlist's chips
abbrev pub HasMap : Texts → Type 0
HasMap texts = (net : List Chip) × (map : StateMap) × SaysNet (texts Netlist) net × SaysMap (texts Map) net map

-- the text of an opening stands for one
abbrev pub HasOpening : Texts → Parts → Type 0
HasOpening texts p = (o : PlainOpening) × StandsForOpening p (texts Opening) o

-- the text of events tells some of the groups that the text of groups stands for
abbrev pub HasEvents : Texts → Parts → Type 0
HasEvents texts p =
    (v : InputGroups) × (events : List Event) × SaysGroups p (texts Groups) v × SaysEvents v p.inputs (texts Events) events

-- A text is of its form. The design has no cycle; a map is that of a netlist; groups, an opening and events are
-- those of a design.
abbrev pub IsRead : List ℕ → Texts → What → Type 0
IsRead top texts Design = OfDesign top texts IsRanked
IsRead top texts Cells = HasCells (texts Cells)
IsRead top texts Groups = OfDesign top texts (HasGroups texts)
IsRead top texts Board = (plan : BoardPlan) × SaysBoard (texts Board) plan
IsRead top texts Netlist = HasNet (texts Netlist)
IsRead top texts Schedule = HasSchedule (texts Schedule)
IsRead top texts Map = HasMap texts
IsRead top texts Opening = OfDesign top texts (HasOpening texts)
IsRead top texts Events = OfDesign top texts (HasEvents texts)

-- ## The faults of texts

-- the text of groups has this fault for the design that the texts say
abbrev pub GroupsAreFaulty : List ℕ → Texts → GroupsFault → Type 0
GroupsAreFaulty top texts fault = OfDesign top texts (λ p. HasGroupsFault p (texts Groups) fault)

-- so has the text of an opening
abbrev pub OpeningIsFaulty : List ℕ → Texts → OpeningsFault → Type 0
OpeningIsFaulty top texts fault = OfDesign top texts (λ p. HasOpeningFault p (texts Opening) fault)

-- and that of events, beside the groups that the texts say
abbrev pub EventsAreFaulty : List ℕ → Texts → EventsFault → Type 0
EventsAreFaulty top texts fault =
    OfDesign top texts (λ p. (v : InputGroups) × SaysGroups p (texts Groups) v × HasEventsFault v p (texts Events) fault)

-- the text that a fault is of; a cycle is one of the design
abbrev pub faulty_text : Refusal → What
faulty_text (refusal.Faulty fault) = Design
faulty_text (refusal.Cells fault) = Cells
faulty_text (refusal.Design fault) = Design
faulty_text (refusal.Cycle names) = Design
faulty_text (refusal.Groups fault) = Groups
faulty_text (refusal.Board fault) = Board
faulty_text (refusal.Netlist fault) = Netlist
faulty_text (refusal.Schedule fault) = Schedule
faulty_text (refusal.Map fault) = Map
faulty_text (refusal.Opening fault) = Opening
faulty_text (refusal.Events fault) = Events

-- The texts have this fault: the design text has no tree; or it has one, and the cells are no table; or they are
-- one, and the two have a fault of flattening; or they describe a design, and it has a cycle; or another text
-- has it.
abbrev pub IsFaulty : List ℕ → Texts → Refusal → Type 0
IsFaulty top texts (refusal.Faulty fault) = HasFault (texts Design) fault.kind fault.at
IsFaulty top texts (refusal.Cells fault) = HasTree (texts Design) × HasCellsFault (texts Cells) fault
IsFaulty top texts (refusal.Design fault) = HasDesignFault top texts fault
IsFaulty top texts (refusal.Cycle names) = OfDesign top texts (λ p. HasCycle p names)
IsFaulty top texts (refusal.Groups fault) = GroupsAreFaulty top texts fault
IsFaulty top texts (refusal.Board fault) = HasBoardFault (texts Board) fault
IsFaulty top texts (refusal.Netlist fault) = HasNetlistFault (texts Netlist) fault
IsFaulty top texts (refusal.Schedule fault) = HasScheduleFault (texts Schedule) fault
IsFaulty top texts (refusal.Map fault) = HasMapFault (texts Netlist) (texts Map) fault
IsFaulty top texts (refusal.Opening fault) = OpeningIsFaulty top texts fault
IsFaulty top texts (refusal.Events fault) = EventsAreFaulty top texts fault

-- a text that has a fault is not of its form
abbrev pub FaultyTextsAreUnread : Type 0
FaultyTextsAreUnread =
    (top : List ℕ) (texts : Texts) (why : Refusal) → IsFaulty top texts why → IsRead top texts (faulty_text why) → ⊥
