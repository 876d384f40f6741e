-- Laws of the grammar: its texts are read, and a list of tokens has at most one tree.
-- The rule is told in docs/FORMATS.md, "The grammar".
use Rattle.std.specs.Prelude.{◌≡◌, ◌⊎◌, ℕ, List, Option, Some, None, Result, Ok, Err, codes, slice_get}
use Rattle.verilog_tree.specs.declared.parser.ParseFault.{ParseFault}
use Rattle.verilog_tree.specs.declared.parser.ParseFault.TheVariants.{NoMemory}
use Rattle.verilog_tree.specs.declared.source.Source.{Source}
use Rattle.verilog_tree.specs.declared.terminal.Terminal.{Terminal}
use Rattle.verilog_tree.specs.Grammar.{IsSource}
use Rattle.verilog_tree.specs.Source.{Explains, dives}

-- a text of the grammar within 64 nested braces has no fault: its answer is a tree, or want of memory
abbrev pub TextsAreRead : Type 0
TextsAreRead =
    (ts : List Terminal) (tree : Source) (answer : Result Source ParseFault) →
    IsSource ts tree → dives 64 ts ≡ None → Explains ts answer →
    (answer ≡ Err NoMemory) ⊎ ((found : Source) × (answer ≡ Ok found))

-- a list of tokens has at most one tree
abbrev pub HasOneTree : Type 0
HasOneTree = (ts : List Terminal) (a b : Source) → IsSource ts a → IsSource ts b → a ≡ b
