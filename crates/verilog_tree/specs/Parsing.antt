-- Inside: where the reader stops, and with which fault.
use Rattle.std.specs.Prelude.{◌≡◌, ℕ, ◌+◌, ◌≤◌, ◌<◌, List, Option, Some, None, slice_get, take}
use Rattle.verilog_tree.specs.declared.parser.ParseFault.{ParseFault}
use Rattle.verilog_tree.specs.declared.parser.ParseFault.TheVariants.{Expected, Unsupported, TooDeep, NoMemory}
use Rattle.verilog_tree.specs.declared.terminal.Terminal.{Terminal}
use Rattle.verilog_tree.specs.declared.terminal.Terminal.TheVariants.{Reserved}

-- the terminals that are read, where the first brace that is too deep stands at this place
abbrev pub readable : List Terminal → Option ℕ → List Terminal
readable ts None = ts
readable ts (Some place) = take (place + 1) ts

-- no brace that is too deep stands before place p
abbrev pub NotBehind : Option ℕ → ℕ → Type 0
NotBehind deep p = (place : ℕ) → deep ≡ Some place → p ≤ place

-- the fault of a text, where reading stopped at place p
abbrev pub FaultIs : List Terminal → ℕ → Option ℕ → ParseFault → Type 0
FaultIs ts p deep NoMemory = ⊥
FaultIs ts p deep (TooDeep place) = (deep ≡ Some place) × (place < p)
FaultIs ts p deep (Unsupported q) = (q ≡ p) × (slice_get ts p ≡ Some Reserved) × NotBehind deep p
FaultIs ts p deep (Expected q) = (q ≡ p) × (slice_get ts p ≡ Some Reserved → ⊥) × NotBehind deep p
