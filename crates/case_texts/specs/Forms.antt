-- The forms of texts.
-- The rules are told in docs/FORMATS.md, from "The design" to "Openings and events".
use Rattle.std.specs.Prelude.{ℕ, true, List, Ok, map}
use Rattle.id_arena.specs.BoardPlan.{BoardPlan}
use Rattle.verilog_lex.specs.declared.token.Token.{Token}
use Rattle.verilog_lex.specs.Reads.{Reads}
use Rattle.verilog_tree.specs.declared.source.Source.{Source}
use Rattle.verilog_tree.specs.Source.{Explains}
use Rattle.verilog_tree.specs.Terminal.{terminal_at}
use Rattle.design_core.specs.declared.parts.Parts.{Parts}
use Rattle.flattening.specs.Stands as designs
use Rattle.board_model.specs.Answers as boards
use Rattle.cell_table.specs.declared.cell.Cell.{Cell}
use Rattle.cell_table.specs.Table.{Stands}
use Rattle.domain_groups.specs.Answers as groups
use Rattle.domain_groups.specs.Groups.{InputGroups}
use Rattle.emu_machine.specs.Results.{Results}
use Rattle.result_files.specs.ThreeTexts as results
use Rattle.case_texts.specs.declared.what.What.TheVariants.{Design, Cells, Netlist, Schedule, Map}
use Rattle.case_texts.specs.What.{Texts}

-- the tokens of a text
abbrev pub AreTokens : List ℕ → List Token → Type 0
AreTokens text tokens = Reads text true 0 (Ok tokens)

-- the tokens of a text, and the tree of these tokens
pub record IsTreeOf (text : List ℕ) (tokens : List Token) (tree : Source) : Type 0 where
  pub are_tokens : AreTokens text tokens
  pub explains : Explains (map terminal_at tokens) (Ok tree)

-- a text has tokens and a tree
pub record HasTree (text : List ℕ) : Type 0 where
  pub tokens : List Token
  pub tree : Source
  pub is_tree : IsTreeOf text tokens tree

-- the text of the design and that of the cells stand together for a design whose top has this name
abbrev pub SaysDesign : List ℕ → Texts → Parts → Type 0
SaysDesign top texts p = designs.Stands (texts Design) (texts Cells) top p

-- a text stands for a table of cells
pub record HasCells (text : List ℕ) : Type 0 where
  pub cells : List Cell
  pub stands : Stands text (Ok cells)

-- a text stands for these groups of a design's inputs
abbrev pub SaysGroups : Parts → List ℕ → InputGroups → Type 0
SaysGroups p text v = groups.StandsFor p text v

-- a text stands for this board
abbrev pub SaysBoard : List ℕ → BoardPlan → Type 0
SaysBoard text plan = boards.StandsFor text plan

-- the texts of the netlist, the schedule and the map stand together for these results
abbrev pub SaysResults : Texts → Results → Type 0
SaysResults texts r = results.StandsFor (texts Netlist) (texts Schedule) (texts Map) r
