-- What holds of each cell of a table, so that whoever makes elements of it need not ask again.
-- The rule is told in docs/FORMATS.md, "The cell table".
use Rattle.std.specs.Prelude.{◌≡◌, ◌==◌, ◌+◌, ◌^◌, ◌<◌, ◌≤◌, ℕ, List, length, Option, is_none}
use Rattle.std.specs.List.{All}
use Rattle.cell_table.specs.declared.cell.Cell.{Cell}
use Rattle.cell_table.specs.declared.cell.CellKind.{CellKind}
use Rattle.cell_table.specs.declared.cell.CellKind.TheVariants.{Comb, Flop, Latch, GateClock, Memory}
use Rattle.cell_table.specs.declared.cell.CellRead.{CellRead}
use Rattle.cell_table.specs.declared.cell.CellWrite.{CellWrite}
use Rattle.cell_table.specs.declared.cell.FeedPin.{FeedPin}
use Rattle.cell_table.specs.declared.cell.FeedPin.TheVariants.{Pin, Table}

-- a table over so many inputs: they are at most 6, and it has no bit beyond its last
pub record IsTableOver (inputs table : ℕ) : Type 0 where
  pub few : inputs ≤ 6
  pub fits : table < 2 ^ (2 ^ inputs)

-- an address is there exactly where there are address bits
abbrev pub HasAddress : ℕ → Option (List ℕ) → Type 0
HasAddress address_bits address = is_none address ≡ (address_bits == 0)

-- a memory within the limits, whose ports have addresses exactly where it has address bits
pub record IsSoundMemory (address_bits width : ℕ) (writes : List CellWrite) (reads : List CellRead) : Type 0 where
  pub few_address_bits : address_bits ≤ 16
  pub some_width : 1 ≤ width
  pub small_width : width ≤ 128
  pub few_ports : length writes + length reads ≤ 16
  pub written_at : All (λ write. HasAddress address_bits write.address) writes
  pub read_at : All (λ read. HasAddress address_bits read.address) reads

-- what feeds a flip-flop or a latch is a pin, or a table over its pins
abbrev pub IsSoundFeed : FeedPin → Type 0
IsSoundFeed (Pin pin) = Unit {0}
IsSoundFeed (Table pins table) = IsTableOver (length pins) table

-- a cell whose tables fit its inputs and which is within the limits
abbrev pub IsSoundKind : CellKind → Type 0
IsSoundKind (Comb inputs outputs) = All (λ out. IsTableOver (length inputs) out.table) outputs
IsSoundKind (Flop clock feed clear preset q qn) = IsSoundFeed feed
IsSoundKind (Latch gate feed clear preset q qn) = IsSoundFeed feed
IsSoundKind (GateClock clock enable test output) = Unit {0}
IsSoundKind (Memory address_bits width writes reads) = IsSoundMemory address_bits width writes reads

-- each of the cells is sound
abbrev pub AreSound : List Cell → Type 0
AreSound cells = All (λ cell. IsSoundKind cell.kind) cells
