-- What a tree with a table of cells describes, and what design bytes and cell bytes stand for.
-- The rule is told in docs/FORMATS.md, "Flattening" and "Faults of flattening".
use Rattle.std.specs.Prelude.{◌≡◌, ℕ, true, List, Result, Ok, Err, map}
use Rattle.verilog_lex.specs.declared.token.Token.{Token}
use Rattle.verilog_lex.specs.Reads.{Reads}
use Rattle.verilog_tree.specs.declared.source.Source.{Source}
use Rattle.verilog_tree.specs.Source.{Explains}
use Rattle.verilog_tree.specs.Terminal.{terminal_at}
use Rattle.cell_table.specs.declared.cell.Cell.{Cell}
use Rattle.cell_table.specs.Table as tables
use Rattle.design_core.specs.declared.parts.Parts.{Parts}
use Rattle.design_core.specs.declared.fault.DesignFault.{DesignFault}
use Rattle.design_core.specs.declared.fault.DesignFault.TheVariants as build
use Rattle.design_core.specs.Faults as building
use Rattle.module_nets.specs.Names.{Name}
use Rattle.flattening.specs.declared.fault.ElabFault.{ElabFault}
use Rattle.flattening.specs.declared.fault.ElabFault.TheVariants.{NoMemory, TwoDrivers, Undriven}
use Rattle.flattening.specs.Flattening.{flattened}
use Rattle.flattening.specs.Places.{Given}

-- what building the flattened parts answers
pub record Builds (g : Given) (top : Name) (answer : Result Parts DesignFault) : Type 0 where
  pub parts : Parts
  pub flat : flattened g top ≡ Ok parts
  pub built : building.Answers parts answer

-- what a text describes: a design, where the flattened parts make one; the faults of drivers, exactly where no earlier fault
-- comes and building answers so; else the first fault
abbrev pub Answers : Given → Name → Result Parts ElabFault → Type 0
Answers g top (Ok d) = Builds g top (Ok d)
Answers g top (Err NoMemory) = Unit {0}
Answers g top (Err (TwoDrivers net name)) = Builds g top (Err (build.TwoDrivers net name))
Answers g top (Err (Undriven net name)) = Builds g top (Err (build.Undriven net name))
Answers g top (Err fault) = flattened g top ≡ Err fault

-- what is given by a text, its tokens and tree, and a table of cells
abbrev pub given_by : List ℕ → List Token → Source → List Cell → Given
given_by source tokens tree table = record { source = source; tokens = tokens; modules = tree.modules; cells = table }

-- design bytes and cell bytes stand for a design: they have tokens, a tree and a table, and these describe it
pub record Stands (design : List ℕ) (table : List ℕ) (top : Name) (d : Parts) : Type 0 where
  pub tokens : List Token
  pub tree : Source
  pub cells : List Cell
  pub tokens_are : Reads design true 0 (Ok tokens)
  pub tree_is : Explains (map terminal_at tokens) (Ok tree)
  pub cells_are : tables.Stands table (Ok cells)
  pub describes : Answers (given_by design tokens tree cells) top (Ok d)
