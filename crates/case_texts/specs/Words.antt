-- The text that a refusal prints.
-- The rule is told in docs/FORMATS.md, "Printed texts".
use Rattle.std.specs.Prelude.{ℕ, List, [], ◌∷◌, ◌++◌, Some, None, codes, decimal, flat_map}
use Rattle.design_core.specs.declared.fault.LimitKind.{LimitKind}
use Rattle.design_core.specs.declared.fault.LimitKind.TheVariants.{Nets, Elements, Inputs, Width, Depth, Instances, Words}
use Rattle.case_texts.specs.declared.refusal.BoardsFault.TheVariants as board
use Rattle.case_texts.specs.declared.refusal.BoardsFault.{BoardsFault}
use Rattle.case_texts.specs.declared.refusal.CellsFault.TheVariants as cells
use Rattle.case_texts.specs.declared.refusal.CellsFault.{CellsFault}
use Rattle.case_texts.specs.declared.refusal.DesignsFault.TheVariants as design
use Rattle.case_texts.specs.declared.refusal.DesignsFault.{DesignsFault}
use Rattle.case_texts.specs.declared.refusal.EventsFault.TheVariants as events
use Rattle.case_texts.specs.declared.refusal.EventsFault.{EventsFault}
use Rattle.case_texts.specs.declared.refusal.Fault.{Fault}
use Rattle.case_texts.specs.declared.refusal.GroupsFault.TheVariants as groups
use Rattle.case_texts.specs.declared.refusal.GroupsFault.{GroupsFault}
use Rattle.case_texts.specs.declared.refusal.MapsFault.TheVariants as map_fault
use Rattle.case_texts.specs.declared.refusal.MapsFault.{MapsFault}
use Rattle.case_texts.specs.declared.refusal.NetlistsFault.TheVariants as netlist
use Rattle.case_texts.specs.declared.refusal.NetlistsFault.{NetlistsFault}
use Rattle.case_texts.specs.declared.refusal.OpeningsFault.TheVariants as opening
use Rattle.case_texts.specs.declared.refusal.OpeningsFault.{OpeningsFault}
use Rattle.case_texts.specs.declared.refusal.Refusal.TheVariants as refusal
use Rattle.case_texts.specs.declared.refusal.Refusal.{Refusal}
use Rattle.case_texts.specs.declared.refusal.SchedulesFault.TheVariants as schedule
use Rattle.case_texts.specs.declared.refusal.SchedulesFault.{SchedulesFault}
use Rattle.case_texts.specs.declared.refusal.TextFault.TheVariants.{BadByte, OpenComment, OpenAttribute, BadNumber, UnknownDigit, Directive, Expected, Unsupported, TooDeep}
use Rattle.case_texts.specs.declared.refusal.TextFault.{TextFault}

-- bytes with a newline after them
abbrev pub line : List ℕ → List ℕ
line bytes = bytes ++ 10 ∷ []

-- the name of a fault, with a space after it
abbrev pub fault_name : TextFault → List ℕ
fault_name BadByte = codes "BadByte "
fault_name OpenComment = codes "OpenComment "
fault_name OpenAttribute = codes "OpenAttribute "
fault_name BadNumber = codes "BadNumber "
fault_name UnknownDigit = codes "UnknownDigit "
fault_name Directive = codes "Directive "
fault_name Expected = codes "Expected "
fault_name Unsupported = codes "Unsupported "
fault_name TooDeep = codes "TooDeep "

-- `refused design FAULT PLACE`
abbrev pub fault_text_of : Fault → List ℕ
fault_text_of fault = line (codes "refused design " ++ fault_name fault.kind ++ decimal fault.at)

-- a fault of cells, with the number of its cell
abbrev pub cells_words : CellsFault → List ℕ
cells_words cells.NotJson = codes "NotJson"
cells_words cells.Version = codes "Version"
cells_words (cells.BadShape None) = codes "BadShape"
cells_words (cells.BadShape (Some cell)) = codes "BadShape " ++ decimal cell
cells_words (cells.PinTwice cell) = codes "PinTwice " ++ decimal cell
cells_words (cells.TableSize cell) = codes "TableSize " ++ decimal cell
cells_words (cells.Limit cell) = codes "Limit " ++ decimal cell
cells_words (cells.CellTwice cell) = codes "CellTwice " ++ decimal cell

-- the name of a quantity that has a limit, with a space after it
abbrev pub limit_name : LimitKind → List ℕ
limit_name Nets = codes "nets "
limit_name Elements = codes "elements "
limit_name Inputs = codes "inputs "
limit_name Width = codes "width "
limit_name Depth = codes "depth "
limit_name Instances = codes "instances "
limit_name Words = codes "words "

-- a fault of a design, with its byte; of a limit the quantity too; of drivers only the name of the net
abbrev pub design_words : DesignsFault → List ℕ
design_words design.NoTop = codes "NoTop"
design_words (design.NameTwice at) = codes "NameTwice " ++ decimal at
design_words (design.UnknownModule at) = codes "UnknownModule " ++ decimal at
design_words (design.Recursive at) = codes "Recursive " ++ decimal at
design_words (design.PortCount at) = codes "PortCount " ++ decimal at
design_words (design.NoPort at) = codes "NoPort " ++ decimal at
design_words (design.PortTwice at) = codes "PortTwice " ++ decimal at
design_words (design.WidthDiffers at) = codes "WidthDiffers " ++ decimal at
design_words (design.BadIndex at) = codes "BadIndex " ++ decimal at
design_words (design.NotDeclared at) = codes "NotDeclared " ++ decimal at
design_words (design.Limit which at) = codes "Limit " ++ limit_name which ++ decimal at
design_words (design.TwoDrivers net name) = codes "TwoDrivers " ++ name
design_words (design.Undriven net name) = codes "Undriven " ++ name

-- a fault of groups, with the number of its group
abbrev pub groups_words : GroupsFault → List ℕ
groups_words groups.NotJson = codes "NotJson"
groups_words groups.BadShape = codes "BadShape"
groups_words groups.Limit = codes "Limit"
groups_words (groups.NameTaken group) = codes "NameTaken " ++ decimal group
groups_words (groups.EmptyGroup group) = codes "EmptyGroup " ++ decimal group
groups_words (groups.NoPort group) = codes "NoPort " ++ decimal group
groups_words (groups.PortTwice group) = codes "PortTwice " ++ decimal group

-- a fault of a board, with the number of its wire
abbrev pub board_words : BoardsFault → List ℕ
board_words board.NotJson = codes "NotJson"
board_words board.BadShape = codes "BadShape"
board_words board.Version = codes "Version"
board_words board.Limit = codes "Limit"
board_words (board.BadWire wire) = codes "BadWire " ++ decimal wire.place

-- a fault of a netlist, with its byte; of drivers the chip and the net
abbrev pub netlist_words : NetlistsFault → List ℕ
netlist_words (netlist.BadByte at) = codes "BadByte " ++ decimal at
netlist_words (netlist.OpenComment at) = codes "OpenComment " ++ decimal at
netlist_words (netlist.OpenAttribute at) = codes "OpenAttribute " ++ decimal at
netlist_words (netlist.BadNumber at) = codes "BadNumber " ++ decimal at
netlist_words (netlist.UnknownDigit at) = codes "UnknownDigit " ++ decimal at
netlist_words (netlist.Directive at) = codes "Directive " ++ decimal at
netlist_words (netlist.Form at) = codes "NetlistForm " ++ decimal at
netlist_words (netlist.Shape chip net) = codes "NetlistShape " ++ decimal chip.place ++ codes " " ++ decimal net.place

-- a fault of a schedule, with the numbers of frame, slot and action
abbrev pub schedule_words : SchedulesFault → List ℕ
schedule_words schedule.NotJson = codes "NotJson"
schedule_words schedule.Version = codes "Version"
schedule_words (schedule.Form frame slot action) =
    codes "ScheduleForm " ++ decimal frame ++ codes " " ++ decimal slot ++ codes " " ++ decimal action

-- a fault of a map, with the number of its entry
abbrev pub map_words : MapsFault → List ℕ
map_words map_fault.NotJson = codes "NotJson"
map_words map_fault.Version = codes "Version"
map_words (map_fault.Form entry) = codes "MapForm " ++ decimal entry

-- a fault of an opening, with the name of its port or the path of its element
abbrev pub opening_words : OpeningsFault → List ℕ
opening_words opening.NotJson = codes "NotJson"
opening_words opening.BadShape = codes "BadShape"
opening_words (opening.NoPort name) = codes "NoPort " ++ name
opening_words (opening.BadValue name) = codes "BadValue " ++ name
opening_words (opening.NoState path) = codes "NoState " ++ path
opening_words (opening.NoWord path) = codes "NoWord " ++ path

-- a fault of events, with the number of its line
abbrev pub events_words : EventsFault → List ℕ
events_words (events.BadLine at) = codes "BadLine " ++ decimal at
events_words (events.NoGroup at) = codes "NoGroup " ++ decimal at
events_words (events.NoPort at) = codes "NoPort " ++ decimal at
events_words (events.PortTwice at) = codes "PortTwice " ++ decimal at
events_words (events.BadValue at) = codes "BadValue " ++ decimal at

-- `refused rank Cycle NAME ..`
abbrev pub cycle_text : List (List ℕ) → List ℕ
cycle_text names = line (codes "refused rank Cycle" ++ flat_map (λ name. codes " " ++ name) names)

-- the text of a refusal
abbrev pub refusal_text : Refusal → List ℕ
refusal_text (refusal.Faulty fault) = fault_text_of fault
refusal_text (refusal.Cells fault) = line (codes "refused cells " ++ cells_words fault)
refusal_text (refusal.Design fault) = line (codes "refused design " ++ design_words fault)
refusal_text (refusal.Cycle names) = cycle_text names
refusal_text (refusal.Groups fault) = line (codes "refused groups " ++ groups_words fault)
refusal_text (refusal.Board fault) = line (codes "refused board " ++ board_words fault)
refusal_text (refusal.Netlist fault) = line (codes "refused netlist " ++ netlist_words fault)
refusal_text (refusal.Schedule fault) = line (codes "refused schedule " ++ schedule_words fault)
refusal_text (refusal.Map fault) = line (codes "refused map " ++ map_words fault)
refusal_text (refusal.Opening fault) = line (codes "refused opening " ++ opening_words fault)
refusal_text (refusal.Events fault) = line (codes "refused events " ++ events_words fault)
