-- Laws of flattening: texts stand for one thing at most, and what they are flattened to is refused for drivers alone.
-- The rule is told in docs/FORMATS.md, "Flattening".
use Rattle.std.specs.Prelude.{◌≡◌, ◌≢◌, ℕ, true, Some, None, List, Result, Ok, Err, map}
use Rattle.verilog_lex.specs.declared.token.Token.{Token}
use Rattle.verilog_lex.specs.Reads.{Reads}
use Rattle.verilog_tree.specs.declared.source.Module.{Module}
use Rattle.verilog_tree.specs.declared.source.Source.{Source}
use Rattle.verilog_tree.specs.Source.{Explains}
use Rattle.verilog_tree.specs.Terminal.{terminal_at}
use Rattle.cell_table.specs.declared.cell.Cell.{Cell}
use Rattle.cell_table.specs.Table as tables
use Rattle.design_core.specs.declared.fault.LimitKind.{LimitKind}
use Rattle.design_core.specs.declared.parts.Parts.{Parts}
use Rattle.design_core.specs.Faults.{AreGood, within}
use Rattle.design_core.specs.Limits.{IsCountable}
use Rattle.module_nets.specs.declared.fault.NetFault.{NetFault}
use Rattle.module_nets.specs.declared.fault.NetFault.TheVariants.{Refused}
use Rattle.module_nets.specs.declared.fault.NetFault.TheVariants as wanting
use Rattle.module_nets.specs.Names.{Name}
use Rattle.module_nets.specs.Nets.{Nets}
use Rattle.module_nets.specs.Nets as declared_nets
use Rattle.flattening.specs.declared.fault.ElabFault.{ElabFault}
use Rattle.flattening.specs.declared.fault.ElabFault.TheVariants.{NoMemory}
use Rattle.flattening.specs.Faults.{declaration_tests, fault_of}
use Rattle.flattening.specs.Flattening.{flattened}
use Rattle.flattening.specs.Places.{Given, nets_of}
use Rattle.flattening.specs.Stands.{Answers, Stands, given_by}
use Rattle.flattening.specs.Steps.{first_fault}

-- what is given has one answer, want of memory aside: it describes one design at most, and what describes none has one fault
abbrev pub EachTreeHasOneAnswer : Type 0
EachTreeHasOneAnswer =
    (g : Given) (top : Name) (first second : Result Parts ElabFault) → first ≢ Err NoMemory → second ≢ Err NoMemory → Answers g top first → Answers g top second → first ≡ second

-- design bytes and cell bytes stand for at most one design
abbrev pub EachTextHasOneDesign : Type 0
EachTextHasOneDesign =
    (design table : List ℕ) (top : Name) (d e : Parts) → Stands design table top d → Stands design table top e → d ≡ e

-- what reading the declarations of a module answers is what flattening asks: the nets of the module, none of whose tests
-- fails, or the fault of the first test that fails
abbrev pub AreTold : Given → Module → Result Nets NetFault → Type 0
AreTold g m (Ok nets) = (nets ≡ nets_of g m) × (first_fault (declaration_tests g m) ≡ None)
AreTold g m (Err (Refused cause at)) = first_fault (declaration_tests g m) ≡ Some (fault_of cause at)
AreTold g m (Err wanting.NoMemory) = Unit {0}

-- it is so for each module and each answer
abbrev pub DeclarationsAreTold : Type 0
DeclarationsAreTold =
    (g : Given) (m : Module) (answer : Result Nets NetFault) → declared_nets.Answers g.source g.tokens m answer → AreTold g m answer

-- the cells are the table that some text stands for
abbrev pub IsTable : List Cell → Type 0
IsTable cells = (bytes : List ℕ) × tables.Stands bytes (Ok cells)

-- parts that may be built and are refused for their drivers alone: what building asks of them holds, no place of them is bad,
-- and they are within all limits
pub record IsWhole (p : Parts) : Type 0 where
  pub countable : IsCountable p
  pub good : AreGood p
  pub limits : (which : LimitKind) → within p which ≡ true

-- what is flattened out of the tokens and the tree of a text, with a table of cells, is so
abbrev pub FlattenedPartsAreWhole : Type 0
FlattenedPartsAreWhole =
    (source : List ℕ) (tokens : List Token) (tree : Source) (cells : List Cell) (top : Name) (parts : Parts) →
    Reads source true 0 (Ok tokens) →
    Explains (map terminal_at tokens) (Ok tree) →
    IsTable cells →
    flattened (given_by source tokens tree cells) top ≡ Ok parts →
    IsWhole parts
