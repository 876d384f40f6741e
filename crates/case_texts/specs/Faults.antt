-- The faults that are told of texts: of a design text that has no tree, with their places in bytes; of a
-- table of cells; of a design text and a table of cells together; of groups; of a board; of a netlist, a
-- schedule and a map; of an opening; of events.
-- The rules are told in docs/FORMATS.md, "Tokens", "The grammar", "The cell table", "Faults of flattening",
-- "Groups", "The board", "The netlist", "The schedule", "The map" and "Openings and events".
use Rattle.std.specs.Prelude.{◌≡◌, ℕ, true, List, Ok, Err, length, map, slice_get}
use Rattle.std.specs.Option.{option_map_or}
use Rattle.verilog_lex.specs.declared.token.Token.{Token}
use Rattle.verilog_lex.specs.declared.fault.LexFault.{LexFault}
use Rattle.verilog_lex.specs.declared.fault.LexFault.TheVariants as lex
use Rattle.verilog_lex.specs.Reads.{Reads}
use Rattle.verilog_tree.specs.declared.source.Source.{Source}
use Rattle.verilog_tree.specs.declared.parser.ParseFault.{ParseFault}
use Rattle.verilog_tree.specs.declared.parser.ParseFault.TheVariants as parse
use Rattle.verilog_tree.specs.Source.{Explains}
use Rattle.verilog_tree.specs.Terminal.{terminal_at}
use Rattle.board_model.specs.declared.fault.BoardFault.{BoardFault}
use Rattle.board_model.specs.declared.fault.BoardFault.TheVariants as told_board
use Rattle.board_model.specs.Answers as boards
use Rattle.cell_table.specs.declared.cell.Cell.{Cell}
use Rattle.cell_table.specs.declared.fault.CellFault.{CellFault}
use Rattle.cell_table.specs.declared.fault.CellFault.TheVariants as told_cell
use Rattle.cell_table.specs.Table as tables
use Rattle.design_core.specs.declared.parts.Parts.{Parts}
use Rattle.flattening.specs.declared.fault.ElabFault.{ElabFault}
use Rattle.flattening.specs.declared.fault.ElabFault.TheVariants as told_design
use Rattle.flattening.specs.Stands.{Answers, given_by}
use Rattle.domain_groups.specs.declared.events.EventFault.{EventFault}
use Rattle.domain_groups.specs.declared.events.EventFault.TheVariants as told_event
use Rattle.domain_groups.specs.declared.fault.GroupFault.{GroupFault}
use Rattle.domain_groups.specs.declared.fault.GroupFault.TheVariants as told_group
use Rattle.domain_groups.specs.declared.openings.OpeningFault.{OpeningFault}
use Rattle.domain_groups.specs.declared.openings.OpeningFault.TheVariants as told_opening
use Rattle.domain_groups.specs.Answers as groups_read
use Rattle.domain_groups.specs.Events.{EventAnswers}
use Rattle.domain_groups.specs.Groups.{InputGroups}
use Rattle.domain_groups.specs.Openings.{OpeningAnswers, PlainOpening}
use Rattle.result_files.specs.declared.result_fault.ResultFault.{ResultFault}
use Rattle.result_files.specs.declared.result_fault.ResultFault.TheVariants as told_result
use Rattle.result_files.specs.Map.{MapAnswers}
use Rattle.result_files.specs.Schedule.{ScheduleAnswers}
use Rattle.result_files.specs.ThreeTexts.{HasMisdriven, HasWrongToken, SaysNet}
use Rattle.emu_machine.specs.declared.netlist.Chip.{Chip}
use Rattle.case_texts.specs.declared.refusal.BoardsFault.{BoardsFault}
use Rattle.case_texts.specs.declared.refusal.BoardsFault.TheVariants as board
use Rattle.case_texts.specs.declared.refusal.CellsFault.{CellsFault}
use Rattle.case_texts.specs.declared.refusal.CellsFault.TheVariants as cells
use Rattle.case_texts.specs.declared.refusal.DesignsFault.{DesignsFault}
use Rattle.case_texts.specs.declared.refusal.DesignsFault.TheVariants as design
use Rattle.case_texts.specs.declared.refusal.EventsFault.{EventsFault}
use Rattle.case_texts.specs.declared.refusal.EventsFault.TheVariants as events
use Rattle.case_texts.specs.declared.refusal.GroupsFault.{GroupsFault}
use Rattle.case_texts.specs.declared.refusal.GroupsFault.TheVariants as groups
use Rattle.case_texts.specs.declared.refusal.MapsFault.{MapsFault}
use Rattle.case_texts.specs.declared.refusal.MapsFault.TheVariants as map_fault
use Rattle.case_texts.specs.declared.refusal.NetlistsFault.{NetlistsFault}
use Rattle.case_texts.specs.declared.refusal.NetlistsFault.TheVariants as netlist
use Rattle.case_texts.specs.declared.refusal.OpeningsFault.{OpeningsFault}
use Rattle.case_texts.specs.declared.refusal.OpeningsFault.TheVariants as opening
use Rattle.case_texts.specs.declared.refusal.SchedulesFault.{SchedulesFault}
use Rattle.case_texts.specs.declared.refusal.SchedulesFault.TheVariants as schedule
use Rattle.case_texts.specs.declared.refusal.TextFault.{TextFault}
use Rattle.case_texts.specs.declared.refusal.TextFault.TheVariants.{BadByte, OpenComment, OpenAttribute, BadNumber, UnknownDigit, Directive, Expected, Unsupported, TooDeep}
use Rattle.case_texts.specs.declared.refusal.Refusal.TheVariants.{Faulty, Cells, Design, Groups, Board, Netlist, Opening, Events}
use Rattle.case_texts.specs.declared.refusal.Unread.{Unread}
use Rattle.case_texts.specs.declared.refusal.Unread.TheVariants as unread
use Rattle.case_texts.specs.declared.what.What.TheVariants as what
use Rattle.case_texts.specs.What.{Texts}
use Rattle.case_texts.specs.Forms.{AreTokens, IsTreeOf}

-- the first byte of a token; past the last token, the number of the text's bytes
abbrev pub byte_of : List ℕ → List Token → ℕ → ℕ
byte_of text tokens place = option_map_or (λ token. token.start) (slice_get tokens place) (length text)

-- a text has tokens but no tree: the parser's fault is at the token that begins at this byte
pub record HasNoTree (text : List ℕ) (fault : ℕ → ParseFault) (at : ℕ) : Type 0 where
  pub tokens : List Token
  pub are_tokens : AreTokens text tokens
  pub place : ℕ
  pub explains : Explains (map terminal_at tokens) (Err (fault place))
  pub byte : at ≡ byte_of text tokens place

-- the first fault of a text, with its byte: what has no tokens, or else what has no tree
abbrev pub HasFault : List ℕ → TextFault → ℕ → Type 0
HasFault text BadByte at = Reads text true 0 (Err (lex.BadByte at))
HasFault text OpenComment at = Reads text true 0 (Err (lex.OpenComment at))
HasFault text OpenAttribute at = Reads text true 0 (Err (lex.OpenAttribute at))
HasFault text BadNumber at = Reads text true 0 (Err (lex.BadNumber at))
HasFault text UnknownDigit at = Reads text true 0 (Err (lex.UnknownDigit at))
HasFault text Directive at = Reads text true 0 (Err (lex.Directive at))
HasFault text Expected at = HasNoTree text parse.Expected at
HasFault text Unsupported at = HasNoTree text parse.Unsupported at
HasFault text TooDeep at = HasNoTree text parse.TooDeep at

-- the answer to a text with this fault
abbrev pub faulty : TextFault → ℕ → Unread
faulty kind at = unread.Refused (Faulty (record { kind = kind; at = at }))

abbrev pub lex_refusal : LexFault → Unread
lex_refusal (lex.BadByte at) = faulty BadByte at
lex_refusal (lex.OpenComment at) = faulty OpenComment at
lex_refusal (lex.OpenAttribute at) = faulty OpenAttribute at
lex_refusal (lex.BadNumber at) = faulty BadNumber at
lex_refusal (lex.UnknownDigit at) = faulty UnknownDigit at
lex_refusal (lex.Directive at) = faulty Directive at
lex_refusal lex.NoMemory = unread.NoMemory

abbrev pub parse_refusal : List ℕ → List Token → ParseFault → Unread
parse_refusal text tokens (parse.Expected place) = faulty Expected (byte_of text tokens place)
parse_refusal text tokens (parse.Unsupported place) = faulty Unsupported (byte_of text tokens place)
parse_refusal text tokens (parse.TooDeep place) = faulty TooDeep (byte_of text tokens place)
parse_refusal text tokens parse.NoMemory = unread.NoMemory

-- ## Cells

-- a fault of cells, as the reader of cell tables tells it
abbrev pub cell_fault_of : CellsFault → CellFault
cell_fault_of cells.NotJson = told_cell.NotJson
cell_fault_of cells.Version = told_cell.Version
cell_fault_of (cells.BadShape cell) = told_cell.BadShape cell
cell_fault_of (cells.PinTwice cell) = told_cell.PinTwice cell
cell_fault_of (cells.TableSize cell) = told_cell.TableSize cell
cell_fault_of (cells.Limit cell) = told_cell.Limit cell
cell_fault_of (cells.CellTwice cell) = told_cell.CellTwice cell

-- a text is no table of cells, and this is its first fault
abbrev pub HasCellsFault : List ℕ → CellsFault → Type 0
HasCellsFault text fault = tables.Stands text (Err (cell_fault_of fault))

-- the answer to a text of which the reader of cell tables tells a fault
abbrev pub cells_refusal : CellFault → Unread
cells_refusal told_cell.NotJson = unread.Refused (Cells cells.NotJson)
cells_refusal told_cell.Version = unread.Refused (Cells cells.Version)
cells_refusal (told_cell.BadShape cell) = unread.Refused (Cells (cells.BadShape cell))
cells_refusal (told_cell.PinTwice cell) = unread.Refused (Cells (cells.PinTwice cell))
cells_refusal (told_cell.TableSize cell) = unread.Refused (Cells (cells.TableSize cell))
cells_refusal (told_cell.Limit cell) = unread.Refused (Cells (cells.Limit cell))
cells_refusal (told_cell.CellTwice cell) = unread.Refused (Cells (cells.CellTwice cell))
cells_refusal told_cell.NoMemory = unread.NoMemory

-- ## The design

-- a fault of a design, as flattening tells it
abbrev pub design_fault_of : DesignsFault → ElabFault
design_fault_of design.NoTop = told_design.NoTop
design_fault_of (design.NameTwice at) = told_design.NameTwice at
design_fault_of (design.UnknownModule at) = told_design.UnknownModule at
design_fault_of (design.Recursive at) = told_design.Recursive at
design_fault_of (design.PortCount at) = told_design.PortCount at
design_fault_of (design.NoPort at) = told_design.NoPort at
design_fault_of (design.PortTwice at) = told_design.PortTwice at
design_fault_of (design.WidthDiffers at) = told_design.WidthDiffers at
design_fault_of (design.BadIndex at) = told_design.BadIndex at
design_fault_of (design.NotDeclared at) = told_design.NotDeclared at
design_fault_of (design.Limit which at) = told_design.Limit which at
design_fault_of (design.TwoDrivers net name) = told_design.TwoDrivers net name
design_fault_of (design.Undriven net name) = told_design.Undriven net name

-- the design text has a tree and the text of cells is a table, and these describe no design: this is their first
-- fault, or that of the drivers of the flattened parts
pub record HasDesignFault (top : List ℕ) (texts : Texts) (fault : DesignsFault) : Type 0 where
  pub tokens : List Token
  pub tree : Source
  pub cells : List Cell
  pub is_tree : IsTreeOf (texts what.Design) tokens tree
  pub is_table : tables.Stands (texts what.Cells) (Ok cells)
  pub answers : Answers (given_by (texts what.Design) tokens tree cells) top (Err (design_fault_of fault))

-- the answer to texts of which flattening tells a fault
abbrev pub design_refusal : ElabFault → Unread
design_refusal told_design.NoTop = unread.Refused (Design design.NoTop)
design_refusal (told_design.NameTwice at) = unread.Refused (Design (design.NameTwice at))
design_refusal (told_design.UnknownModule at) = unread.Refused (Design (design.UnknownModule at))
design_refusal (told_design.Recursive at) = unread.Refused (Design (design.Recursive at))
design_refusal (told_design.PortCount at) = unread.Refused (Design (design.PortCount at))
design_refusal (told_design.NoPort at) = unread.Refused (Design (design.NoPort at))
design_refusal (told_design.PortTwice at) = unread.Refused (Design (design.PortTwice at))
design_refusal (told_design.WidthDiffers at) = unread.Refused (Design (design.WidthDiffers at))
design_refusal (told_design.BadIndex at) = unread.Refused (Design (design.BadIndex at))
design_refusal (told_design.NotDeclared at) = unread.Refused (Design (design.NotDeclared at))
design_refusal (told_design.Limit which at) = unread.Refused (Design (design.Limit which at))
design_refusal (told_design.TwoDrivers net name) = unread.Refused (Design (design.TwoDrivers net name))
design_refusal (told_design.Undriven net name) = unread.Refused (Design (design.Undriven net name))
design_refusal told_design.NoMemory = unread.NoMemory

-- ## Groups

-- a fault of groups, as the reader of groups tells it
abbrev pub group_fault_of : GroupsFault → GroupFault
group_fault_of groups.NotJson = told_group.NotJson
group_fault_of groups.BadShape = told_group.BadShape
group_fault_of groups.Limit = told_group.Limit
group_fault_of (groups.NameTaken group) = told_group.NameTaken group
group_fault_of (groups.EmptyGroup group) = told_group.EmptyGroup group
group_fault_of (groups.NoPort group) = told_group.NoPort group
group_fault_of (groups.PortTwice group) = told_group.PortTwice group

-- a text stands for no groups of a design, and this is its first fault
abbrev pub HasGroupsFault : Parts → List ℕ → GroupsFault → Type 0
HasGroupsFault p text fault = groups_read.Answers p text (Err (group_fault_of fault))

-- the answer to a text of which the reader of groups tells a fault
abbrev pub groups_refusal : GroupFault → Unread
groups_refusal told_group.NotJson = unread.Refused (Groups groups.NotJson)
groups_refusal told_group.BadShape = unread.Refused (Groups groups.BadShape)
groups_refusal told_group.Limit = unread.Refused (Groups groups.Limit)
groups_refusal (told_group.NameTaken group) = unread.Refused (Groups (groups.NameTaken group))
groups_refusal (told_group.EmptyGroup group) = unread.Refused (Groups (groups.EmptyGroup group))
groups_refusal (told_group.NoPort group) = unread.Refused (Groups (groups.NoPort group))
groups_refusal (told_group.PortTwice group) = unread.Refused (Groups (groups.PortTwice group))
groups_refusal told_group.NoMemory = unread.NoMemory

-- ## The board

-- a fault of a board, as the reader of boards tells it
abbrev pub board_fault_of : BoardsFault → BoardFault
board_fault_of board.NotJson = told_board.NotJson
board_fault_of board.BadShape = told_board.BadShape
board_fault_of board.Version = told_board.Version
board_fault_of board.Limit = told_board.Limit
board_fault_of (board.BadWire wire) = told_board.BadWire wire

-- a text is no board, and this is its first fault
abbrev pub HasBoardFault : List ℕ → BoardsFault → Type 0
HasBoardFault text fault = boards.Answers text (Err (board_fault_of fault))

-- the answer to a text of which the reader of boards tells a fault
abbrev pub board_refusal : BoardFault → Unread
board_refusal told_board.NotJson = unread.Refused (Board board.NotJson)
board_refusal told_board.BadShape = unread.Refused (Board board.BadShape)
board_refusal told_board.Version = unread.Refused (Board board.Version)
board_refusal told_board.Limit = unread.Refused (Board board.Limit)
board_refusal (told_board.BadWire wire) = unread.Refused (Board (board.BadWire wire))
board_refusal told_board.NoMemory = unread.NoMemory

-- ## Results

-- the token that begins at this byte is the first of a netlist that cannot stand after those before it
pub record HasWrongByte (text : List ℕ) (at : ℕ) : Type 0 where
  pub token : ℕ
  pub wrong : HasWrongToken text token
  pub byte : at ≡ byte_of text wrong.tokens token

-- a text is no netlist with a driver for each net, and this is its first fault: in its tokens, its form, or the
-- drivers of its nets
abbrev pub HasNetlistFault : List ℕ → NetlistsFault → Type 0
HasNetlistFault text (netlist.BadByte at) = Reads text true 0 (Err (lex.BadByte at))
HasNetlistFault text (netlist.OpenComment at) = Reads text true 0 (Err (lex.OpenComment at))
HasNetlistFault text (netlist.OpenAttribute at) = Reads text true 0 (Err (lex.OpenAttribute at))
HasNetlistFault text (netlist.BadNumber at) = Reads text true 0 (Err (lex.BadNumber at))
HasNetlistFault text (netlist.UnknownDigit at) = Reads text true 0 (Err (lex.UnknownDigit at))
HasNetlistFault text (netlist.Directive at) = Reads text true 0 (Err (lex.Directive at))
HasNetlistFault text (netlist.Form at) = HasWrongByte text at
HasNetlistFault text (netlist.Shape chip net) = HasMisdriven text chip.place net.place

-- the answer to a netlist without tokens
abbrev pub netlist_lex_refusal : LexFault → Unread
netlist_lex_refusal (lex.BadByte at) = unread.Refused (Netlist (netlist.BadByte at))
netlist_lex_refusal (lex.OpenComment at) = unread.Refused (Netlist (netlist.OpenComment at))
netlist_lex_refusal (lex.OpenAttribute at) = unread.Refused (Netlist (netlist.OpenAttribute at))
netlist_lex_refusal (lex.BadNumber at) = unread.Refused (Netlist (netlist.BadNumber at))
netlist_lex_refusal (lex.UnknownDigit at) = unread.Refused (Netlist (netlist.UnknownDigit at))
netlist_lex_refusal (lex.Directive at) = unread.Refused (Netlist (netlist.Directive at))
netlist_lex_refusal lex.NoMemory = unread.NoMemory

-- a fault of a schedule, as the reader of results tells it
abbrev pub schedule_fault_of : SchedulesFault → ResultFault
schedule_fault_of schedule.NotJson = told_result.ScheduleNotJson
schedule_fault_of schedule.Version = told_result.ScheduleVersion
schedule_fault_of (schedule.Form frame slot action) = told_result.ScheduleForm frame slot action

-- a text is no schedule, and this is its first fault
abbrev pub HasScheduleFault : List ℕ → SchedulesFault → Type 0
HasScheduleFault text fault = ScheduleAnswers text (Err (schedule_fault_of fault))

-- a fault of a map, as the reader of results tells it
abbrev pub map_fault_of : MapsFault → ResultFault
map_fault_of map_fault.NotJson = told_result.MapNotJson
map_fault_of map_fault.Version = told_result.MapVersion
map_fault_of (map_fault.Form entry) = told_result.MapForm entry

-- a text is no map of the chips that another text is the netlist of, and this is its first fault
pub record HasMapFault (netlist map : List ℕ) (fault : MapsFault) : Type 0 where
  pub net : List Chip
  pub net_is : SaysNet netlist net
  pub fails : MapAnswers map net (Err (map_fault_of fault))

-- ## The opening

-- a fault of an opening, as the reader of openings tells it
abbrev pub opening_fault_of : OpeningsFault → OpeningFault
opening_fault_of opening.NotJson = told_opening.NotJson
opening_fault_of opening.BadShape = told_opening.BadShape
opening_fault_of (opening.NoPort name) = told_opening.NoPort name
opening_fault_of (opening.BadValue name) = told_opening.BadValue name
opening_fault_of (opening.NoState path) = told_opening.NoState path
opening_fault_of (opening.NoWord path) = told_opening.NoWord path

-- a text stands for no opening of a design, and this is its first fault
abbrev pub HasOpeningFault : Parts → List ℕ → OpeningsFault → Type 0
HasOpeningFault p text fault = OpeningAnswers {X = PlainOpening} (λ o. o) p text (Err (opening_fault_of fault))

-- the answer to a text of which the reader of openings tells a fault
abbrev pub opening_refusal : OpeningFault → Unread
opening_refusal told_opening.NotJson = unread.Refused (Opening opening.NotJson)
opening_refusal told_opening.BadShape = unread.Refused (Opening opening.BadShape)
opening_refusal (told_opening.NoPort name) = unread.Refused (Opening (opening.NoPort name))
opening_refusal (told_opening.BadValue name) = unread.Refused (Opening (opening.BadValue name))
opening_refusal (told_opening.NoState path) = unread.Refused (Opening (opening.NoState path))
opening_refusal (told_opening.NoWord path) = unread.Refused (Opening (opening.NoWord path))
opening_refusal told_opening.NoMemory = unread.NoMemory

-- ## Events

-- a fault of events, as the reader of events tells it
abbrev pub event_fault_of : EventsFault → EventFault
event_fault_of (events.BadLine at) = told_event.BadLine at
event_fault_of (events.NoGroup at) = told_event.NoGroup at
event_fault_of (events.NoPort at) = told_event.NoPort at
event_fault_of (events.PortTwice at) = told_event.PortTwice at
event_fault_of (events.BadValue at) = told_event.BadValue at

-- a text tells no events of a design with these groups, and this is its first fault
abbrev pub HasEventsFault : InputGroups → Parts → List ℕ → EventsFault → Type 0
HasEventsFault v p text fault = EventAnswers v p.inputs text (Err (event_fault_of fault))

-- the answer to a text of which the reader of events tells a fault
abbrev pub events_refusal : EventFault → Unread
events_refusal (told_event.BadLine at) = unread.Refused (Events (events.BadLine at))
events_refusal (told_event.NoGroup at) = unread.Refused (Events (events.NoGroup at))
events_refusal (told_event.NoPort at) = unread.Refused (Events (events.NoPort at))
events_refusal (told_event.PortTwice at) = unread.Refused (Events (events.PortTwice at))
events_refusal (told_event.BadValue at) = unread.Refused (Events (events.BadValue at))
events_refusal told_event.NoMemory = unread.NoMemory
