-- That a text is read as one thing only, and what its refusals say.
use Rattle.std.proofs.Common.{ℕ, ◌≡◌, ◌≢◌, List, map, Result, Ok, Err, refl, sym, ◌∙◌, subst, true}
use Rattle.id_arena.specs.BoardPlan.{BoardPlan}
use Rattle.verilog_lex.specs.declared.token.Token.{Token}
use Rattle.verilog_lex.specs.declared.fault.LexFault.{LexFault}
use Rattle.verilog_lex.specs.declared.fault.LexFault.TheVariants as lex
use Rattle.verilog_lex.specs.Reads as reading
use Rattle.verilog_tree.specs.declared.parser.ParseFault.{ParseFault}
use Rattle.verilog_tree.specs.declared.parser.ParseFault.TheVariants as parse
use Rattle.verilog_tree.specs.declared.source.Source.{Source}
use Rattle.verilog_tree.specs.Source.{Explains}
use Rattle.verilog_tree.specs.Terminal.{terminal_at}
use Rattle.verilog_tree.specs.Laws.{HasOneTree}
use Rattle.verilog_tree.specs.Grammar.{IsSource}
use Rattle.design_core.specs.declared.parts.Parts.{Parts}
use Rattle.flattening.specs.declared.fault.ElabFault.{ElabFault}
use Rattle.flattening.specs.declared.fault.ElabFault.TheVariants as elab
use Rattle.flattening.specs.Laws.{EachTreeHasOneAnswer}
use Rattle.flattening.specs.Places.{Given}
use Rattle.flattening.specs.Stands as flat
use Rattle.flattening.specs.Stands.{given_by}
use Rattle.board_model.specs.declared.fault.BoardFault.{BoardFault}
use Rattle.board_model.specs.declared.fault.BoardFault.TheVariants as board
use Rattle.board_model.specs.Answers as boards
use Rattle.cell_table.specs.declared.cell.Cell.{Cell}
use Rattle.cell_table.specs.declared.fault.CellFault.{CellFault}
use Rattle.cell_table.specs.declared.fault.CellFault.TheVariants as cell
use Rattle.cell_table.specs.Table as tables
use Rattle.domain_groups.specs.declared.events.EventFault.{EventFault}
use Rattle.domain_groups.specs.declared.events.EventFault.TheVariants as event
use Rattle.domain_groups.specs.declared.fault.GroupFault.{GroupFault}
use Rattle.domain_groups.specs.declared.fault.GroupFault.TheVariants as group
use Rattle.domain_groups.specs.declared.openings.OpeningFault.{OpeningFault}
use Rattle.domain_groups.specs.declared.openings.OpeningFault.TheVariants as opened
use Rattle.domain_groups.specs.Answers as groups
use Rattle.domain_groups.specs.Events.{EachRecordingHasOneAnswer, SaysEvents}
use Rattle.domain_groups.specs.Groups.{InputGroups}
use Rattle.domain_groups.specs.Openings.{EachOpeningHasOneAnswer, PlainOpening, StandsForOpening}
use Rattle.design_core.specs.declared.values.Event.{Event}
use Rattle.case_texts.specs.declared.refusal.BoardsFault.{BoardsFault}
use Rattle.case_texts.specs.declared.refusal.BoardsFault.TheVariants as told
use Rattle.case_texts.specs.declared.refusal.CellsFault.{CellsFault}
use Rattle.case_texts.specs.declared.refusal.CellsFault.TheVariants as cells
use Rattle.case_texts.specs.declared.refusal.DesignsFault.{DesignsFault}
use Rattle.case_texts.specs.declared.refusal.DesignsFault.TheVariants as designs
use Rattle.case_texts.specs.declared.refusal.EventsFault.{EventsFault}
use Rattle.case_texts.specs.declared.refusal.EventsFault.TheVariants as events_told
use Rattle.case_texts.specs.declared.refusal.GroupsFault.{GroupsFault}
use Rattle.case_texts.specs.declared.refusal.GroupsFault.TheVariants as groups_told
use Rattle.case_texts.specs.declared.refusal.OpeningsFault.{OpeningsFault}
use Rattle.case_texts.specs.declared.refusal.OpeningsFault.TheVariants as opening_told
use Rattle.case_texts.specs.declared.what.What.TheVariants.{Design, Cells}
use Rattle.case_texts.specs.What.{Texts}
use Rattle.case_texts.specs.Faults.{HasBoardFault, HasCellsFault, HasDesignFault, HasEventsFault, HasGroupsFault, HasNoTree, HasOpeningFault, board_fault_of, board_refusal, byte_of, cell_fault_of, cells_refusal, design_fault_of, event_fault_of, group_fault_of, lex_refusal, opening_fault_of, parse_refusal}
use Rattle.case_texts.specs.Forms.{AreTokens, HasCells, IsTreeOf, SaysBoard, SaysDesign, SaysGroups}
use Rattle.case_texts.specs.Reading.{BoardMeans, CellsMean, TreeMeans}

-- two answers of one text are the same
pub one_answer : reading.EachTextHasOneAnswer → (text : List ℕ) (a b : Result (List Token) LexFault) → reading.Reads text true 0 a → reading.Reads text true 0 b → a ≡ b
one_answer law text a b reads-a reads-b = (law text).2 a reads-a ∙ sym ((law text).2 b reads-b)

-- no other tokens are those of the text
abbrev pub Alone : List ℕ → List Token → Type 0
Alone text tokens = (others : List Token) → AreTokens text others → others ≡ tokens

-- a text has one list of tokens
pub tokens_once : reading.EachTextHasOneAnswer → (text : List ℕ) (tokens : List Token) → AreTokens text tokens → Alone text tokens
tokens_once law text tokens are others too =
    let left : Result (List Token) LexFault = Ok others in
    let right : Result (List Token) LexFault = Ok tokens in
    let same : left ≡ right = one_answer law text left right too are in
    cc

-- a text of which a fault of the lexer is told has no tokens
pub no_tokens_where : reading.EachTextHasOneAnswer → (text : List ℕ) (fault : LexFault) (tokens : List Token) → reading.Reads text true 0 (Err fault) → AreTokens text tokens → ⊥
no_tokens_where law text fault tokens reads are =
    let left : Result (List Token) LexFault = Err fault in
    let right : Result (List Token) LexFault = Ok tokens in
    let same : left ≡ right = one_answer law text left right reads are in
    cc

-- a text without tokens is refused by its first fault
pub lex_means : (text : List ℕ) (fault : LexFault) → reading.Answers text (Err fault) → TreeMeans text (Err (lex_refusal fault))
lex_means text (lex.BadByte at) reads = reads
lex_means text (lex.OpenComment at) reads = reads
lex_means text (lex.OpenAttribute at) reads = reads
lex_means text (lex.BadNumber at) reads = reads
lex_means text (lex.UnknownDigit at) reads = reads
lex_means text (lex.Directive at) reads = reads
lex_means text lex.NoMemory reads = tt

-- a fault of the parser, with the byte of its token
no_tree : (text : List ℕ) (tokens : List Token) (fault : ℕ → ParseFault) (place : ℕ) → AreTokens text tokens → Explains (map terminal_at tokens) (Err (fault place)) → HasNoTree text fault (byte_of text tokens place)
no_tree text tokens fault place are explains = record { tokens = tokens; are_tokens = are; place = place; explains = explains; byte = refl }

-- a text without a tree is refused by the parser's fault
pub parse_means : (text : List ℕ) (tokens : List Token) (fault : ParseFault) → AreTokens text tokens → Explains (map terminal_at tokens) (Err fault) → TreeMeans text (Err (parse_refusal text tokens fault))
parse_means text tokens (parse.Expected place) are explains = no_tree text tokens parse.Expected place are explains
parse_means text tokens (parse.Unsupported place) are explains = no_tree text tokens parse.Unsupported place are explains
parse_means text tokens (parse.TooDeep place) are explains = no_tree text tokens parse.TooDeep place are explains
parse_means text tokens parse.NoMemory are explains = tt

-- a text has one list of tokens and one tree
pub one_tree : reading.EachTextHasOneAnswer → HasOneTree → (text : List ℕ) (tokens others : List Token) (tree other : Source)
    → IsTreeOf text tokens tree → IsTreeOf text others other → (others ≡ tokens) × (other ≡ tree)
one_tree law trees text tokens others tree other is also =
    let same : others ≡ tokens = tokens_once law text tokens is.are_tokens others also.are_tokens in
    let there : IsSource (map terminal_at tokens) other = subst (λ ts. IsSource (map terminal_at ts) other) same also.explains.0 in
    (same, trees (map terminal_at tokens) other tree there is.explains.0)

-- a text stands for one board
pub one_plan : boards.EachTextHasOneAnswer → (text : List ℕ) (a b : BoardPlan) → boards.StandsFor text a → boards.StandsFor text b → a ≡ b
one_plan law text a b stands-a stands-b =
    let left : Result BoardPlan BoardFault = Ok a in
    let right : Result BoardPlan BoardFault = Ok b in
    let memory : Result BoardPlan BoardFault = Err board.NoMemory in
    let left-kept : left ≢ memory = λ e. cc in
    let right-kept : right ≢ memory = λ e. cc in
    let same : left ≡ right = law text left right left-kept right-kept stands-a stands-b in
    cc

-- no fault that is told is want of memory
not_memory : (fault : BoardsFault) → board_fault_of fault ≡ board.NoMemory → ⊥
not_memory told.NotJson same = cc
not_memory told.BadShape same = cc
not_memory told.Version same = cc
not_memory told.Limit same = cc
not_memory (told.BadWire wire) same = cc

-- a text with a fault stands for no board
pub no_board : boards.EachTextHasOneAnswer → (text : List ℕ) (fault : BoardsFault) → HasBoardFault text fault → (plan : BoardPlan) → SaysBoard text plan → ⊥
no_board law text fault answers plan says =
    let left : Result BoardPlan BoardFault = Err (board_fault_of fault) in
    let right : Result BoardPlan BoardFault = Ok plan in
    let memory : Result BoardPlan BoardFault = Err board.NoMemory in
    let left-kept : left ≢ memory = λ e. not_memory fault cc in
    let right-kept : right ≢ memory = λ e. cc in
    let same : left ≡ right = law text left right left-kept right-kept answers says in
    cc

-- a fault that the reader of boards tells is the text's
pub board_means : (text : List ℕ) (fault : BoardFault) → boards.Answers text (Err fault) → BoardMeans text (Err (board_refusal fault))
board_means text board.NotJson answers = answers
board_means text board.BadShape answers = answers
board_means text board.Version answers = answers
board_means text board.Limit answers = answers
board_means text (board.BadWire wire) answers = answers
board_means text board.NoMemory answers = tt

-- a fault that the reader of cell tables tells is the text's
pub cells_mean : (text : List ℕ) (fault : CellFault) → tables.Stands text (Err fault) → CellsMean text (Err (cells_refusal fault))
cells_mean text cell.NotJson stands = stands
cells_mean text cell.Version stands = stands
cells_mean text (cell.BadShape number) stands = stands
cells_mean text (cell.PinTwice number) stands = stands
cells_mean text (cell.TableSize number) stands = stands
cells_mean text (cell.Limit number) stands = stands
cells_mean text (cell.CellTwice number) stands = stands
cells_mean text cell.NoMemory stands = tt

no_cell_memory : (fault : CellsFault) → cell_fault_of fault ≡ cell.NoMemory → ⊥
no_cell_memory cells.NotJson same = cc
no_cell_memory cells.Version same = cc
no_cell_memory (cells.BadShape number) same = cc
no_cell_memory (cells.PinTwice number) same = cc
no_cell_memory (cells.TableSize number) same = cc
no_cell_memory (cells.Limit number) same = cc
no_cell_memory (cells.CellTwice number) same = cc

-- a text with a fault stands for no table of cells
pub no_table : tables.EachTextHasOneAnswer → (text : List ℕ) (fault : CellsFault) → HasCellsFault text fault → HasCells text → ⊥
no_table law text fault stands has =
    let left : Result (List Cell) CellFault = Err (cell_fault_of fault) in
    let right : Result (List Cell) CellFault = Ok has.cells in
    let memory : Result (List Cell) CellFault = Err cell.NoMemory in
    let left-kept : left ≢ memory = λ e. no_cell_memory fault cc in
    let right-kept : right ≢ memory = λ e. cc in
    let same : left ≡ right = law text left right left-kept right-kept stands has.stands in
    cc

-- ## The design

no_design_memory : (fault : DesignsFault) → design_fault_of fault ≡ elab.NoMemory → ⊥
no_design_memory designs.NoTop same = cc
no_design_memory (designs.NameTwice at) same = cc
no_design_memory (designs.UnknownModule at) same = cc
no_design_memory (designs.Recursive at) same = cc
no_design_memory (designs.PortCount at) same = cc
no_design_memory (designs.NoPort at) same = cc
no_design_memory (designs.PortTwice at) same = cc
no_design_memory (designs.WidthDiffers at) same = cc
no_design_memory (designs.BadIndex at) same = cc
no_design_memory (designs.NotDeclared at) same = cc
no_design_memory (designs.Limit which at) same = cc
no_design_memory (designs.TwoDrivers net name) same = cc
no_design_memory (designs.Undriven net name) same = cc

-- a text stands for one table of cells
one_table : tables.EachTextHasOneAnswer → (text : List ℕ) (a b : List Cell) → tables.Stands text (Ok a) → tables.Stands text (Ok b) → a ≡ b
one_table law text a b stands also =
    let left : Result (List Cell) CellFault = Ok a in
    let right : Result (List Cell) CellFault = Ok b in
    let memory : Result (List Cell) CellFault = Err cell.NoMemory in
    let left-kept : left ≢ memory = λ e. cc in
    let right-kept : right ≢ memory = λ e. cc in
    let same : left ≡ right = law text left right left-kept right-kept stands also in
    cc

-- what is given that has a fault describes no design
no_design : EachTreeHasOneAnswer → (g : Given) (top : List ℕ) (fault : DesignsFault) (p : Parts) → flat.Answers g top (Err (design_fault_of fault)) → flat.Answers g top (Ok p) → ⊥
no_design law g top fault p faulty describes =
    let left : Result Parts ElabFault = Err (design_fault_of fault) in
    let right : Result Parts ElabFault = Ok p in
    let memory : Result Parts ElabFault = Err elab.NoMemory in
    let left-kept : left ≢ memory = λ e. no_design_memory fault cc in
    let right-kept : right ≢ memory = λ e. cc in
    let same : left ≡ right = law g top left right left-kept right-kept faulty describes in
    cc

-- texts with a fault of flattening say no design
pub no_flat : reading.EachTextHasOneAnswer → HasOneTree → tables.EachTextHasOneAnswer → EachTreeHasOneAnswer → (top : List ℕ) (texts : Texts) (fault : DesignsFault) (p : Parts) → HasDesignFault top texts fault → SaysDesign top texts p → ⊥
no_flat lexed trees table-law law top texts fault p has says =
    let also : IsTreeOf (texts Design) says.tokens says.tree = record { are_tokens = says.tokens_are; explains = says.tree_is } in
    let same : (says.tokens ≡ has.tokens) × (says.tree ≡ has.tree) = one_tree lexed trees (texts Design) has.tokens says.tokens has.tree says.tree has.is_tree also in
    let table : says.cells ≡ has.cells = one_table table-law (texts Cells) says.cells has.cells says.cells_are has.is_table in
    no_design law (given_by (texts Design) has.tokens has.tree has.cells) top fault p has.answers
    (subst (λ cells. flat.Answers (given_by (texts Design) has.tokens has.tree cells) top (Ok p)) table
    (subst (λ (tree : Source). flat.Answers (given_by (texts Design) has.tokens tree says.cells) top (Ok p)) same.1
    (subst (λ tokens. flat.Answers (given_by (texts Design) tokens says.tree says.cells) top (Ok p)) same.0 says.describes)))

-- ## Groups

no_group_memory : (fault : GroupsFault) → group_fault_of fault ≡ group.NoMemory → ⊥
no_group_memory groups_told.NotJson same = cc
no_group_memory groups_told.BadShape same = cc
no_group_memory groups_told.Limit same = cc
no_group_memory (groups_told.NameTaken number) same = cc
no_group_memory (groups_told.EmptyGroup number) same = cc
no_group_memory (groups_told.NoPort number) same = cc
no_group_memory (groups_told.PortTwice number) same = cc

-- a text with a fault stands for no groups
pub no_groups : groups.EachTextHasOneAnswer → (p : Parts) (text : List ℕ) (fault : GroupsFault) → HasGroupsFault p text fault → (v : InputGroups) → SaysGroups p text v → ⊥
no_groups law p text fault answers v says =
    let left : Result InputGroups GroupFault = Err (group_fault_of fault) in
    let right : Result InputGroups GroupFault = Ok v in
    let memory : Result InputGroups GroupFault = Err group.NoMemory in
    let left-kept : left ≢ memory = λ e. no_group_memory fault cc in
    let right-kept : right ≢ memory = λ e. cc in
    let same : left ≡ right = law p text left right left-kept right-kept answers says in
    cc

-- a text stands for one list of groups
pub one_groups : groups.EachTextHasOneAnswer → (p : Parts) (text : List ℕ) (v w : InputGroups) → SaysGroups p text v → SaysGroups p text w → v ≡ w
one_groups law p text v w says also =
    let left : Result InputGroups GroupFault = Ok v in
    let right : Result InputGroups GroupFault = Ok w in
    let memory : Result InputGroups GroupFault = Err group.NoMemory in
    let left-kept : left ≢ memory = λ e. cc in
    let right-kept : right ≢ memory = λ e. cc in
    let same : left ≡ right = law p text left right left-kept right-kept says also in
    cc

-- ## Openings

no_opening_memory : (fault : OpeningsFault) → opening_fault_of fault ≡ opened.NoMemory → ⊥
no_opening_memory opening_told.NotJson same = cc
no_opening_memory opening_told.BadShape same = cc
no_opening_memory (opening_told.NoPort name) same = cc
no_opening_memory (opening_told.BadValue name) same = cc
no_opening_memory (opening_told.NoState path) same = cc
no_opening_memory (opening_told.NoWord path) same = cc

-- a text with a fault stands for no opening
pub no_plain_opening : EachOpeningHasOneAnswer → (p : Parts) (text : List ℕ) (fault : OpeningsFault) → HasOpeningFault p text fault → (o : PlainOpening) → StandsForOpening p text o → ⊥
no_plain_opening law p text fault answers o stands =
    let left : Result PlainOpening OpeningFault = Err (opening_fault_of fault) in
    let right : Result PlainOpening OpeningFault = Ok o in
    let memory : Result PlainOpening OpeningFault = Err opened.NoMemory in
    let left-kept : left ≢ memory = λ e. no_opening_memory fault cc in
    let right-kept : right ≢ memory = λ e. cc in
    let same : left ≡ right = law p text left right left-kept right-kept answers stands in
    cc

-- a text stands for one opening
pub one_plain_opening : EachOpeningHasOneAnswer → (p : Parts) (text : List ℕ) (a b : PlainOpening) → StandsForOpening p text a → StandsForOpening p text b → a ≡ b
one_plain_opening law p text a b stands also =
    let left : Result PlainOpening OpeningFault = Ok a in
    let right : Result PlainOpening OpeningFault = Ok b in
    let memory : Result PlainOpening OpeningFault = Err opened.NoMemory in
    let left-kept : left ≢ memory = λ e. cc in
    let right-kept : right ≢ memory = λ e. cc in
    let same : left ≡ right = law p text left right left-kept right-kept stands also in
    cc

-- ## Events

no_event_memory : (fault : EventsFault) → event_fault_of fault ≡ event.NoMemory → ⊥
no_event_memory (events_told.BadLine line) same = cc
no_event_memory (events_told.NoGroup line) same = cc
no_event_memory (events_told.NoPort line) same = cc
no_event_memory (events_told.PortTwice line) same = cc
no_event_memory (events_told.BadValue line) same = cc

-- a text with a fault tells no events
pub no_events : EachRecordingHasOneAnswer → (v : InputGroups) (p : Parts) (text : List ℕ) (fault : EventsFault) → HasEventsFault v p text fault → (events : List Event) → SaysEvents v p.inputs text events → ⊥
no_events law v p text fault answers events says =
    let left : Result (List Event) EventFault = Err (event_fault_of fault) in
    let right : Result (List Event) EventFault = Ok events in
    let memory : Result (List Event) EventFault = Err event.NoMemory in
    let left-kept : left ≢ memory = λ e. no_event_memory fault cc in
    let right-kept : right ≢ memory = λ e. cc in
    let same : left ≡ right = law v p.inputs text left right left-kept right-kept answers says in
    cc

-- a text tells one list of events
pub one_events : EachRecordingHasOneAnswer → (v : InputGroups) (p : Parts) (text : List ℕ) (a b : List Event) → SaysEvents v p.inputs text a → SaysEvents v p.inputs text b → a ≡ b
one_events law v p text a b says also =
    let left : Result (List Event) EventFault = Ok a in
    let right : Result (List Event) EventFault = Ok b in
    let memory : Result (List Event) EventFault = Err event.NoMemory in
    let left-kept : left ≢ memory = λ e. cc in
    let right-kept : right ≢ memory = λ e. cc in
    let same : left ≡ right = law v p.inputs text left right left-kept right-kept says also in
    cc
