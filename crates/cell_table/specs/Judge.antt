-- What a cell of good shape may still have wrong, beside a pin that stands twice: the length of a
-- table, and the limits.
-- The rule is told in docs/FORMATS.md, "The cell table".
use Rattle.std.specs.Prelude.{◌==◌, ◌^◌, ◌+◌, ◌&&◌, ℕ, List, length, Bool, true, nat_le}
use Rattle.std.specs.List.{list_all}
use Rattle.cell_table.specs.declared.written.WrittenFeed.{WrittenFeed}
use Rattle.cell_table.specs.declared.written.WrittenFeed.TheVariants.{Pin, Table}
use Rattle.cell_table.specs.declared.written.WrittenKind.{WrittenKind}
use Rattle.cell_table.specs.declared.written.WrittenKind.TheVariants.{Comb, Flop, Latch, GateClock, Memory}
use Rattle.cell_table.specs.declared.written.WrittenOut.{WrittenOut}

-- whether a table has a bit for each value of this number of inputs
abbrev pub is_sized : ℕ → List Bool → Bool
is_sized inputs table = length table == 2 ^ inputs

-- whether each of the outputs is a table over this number of inputs
abbrev pub outs_are_sized : ℕ → List WrittenOut → Bool
outs_are_sized inputs outputs = list_all (λ out. is_sized inputs out.table) outputs

-- whether what feeds a flip-flop or a latch is a pin, or a table over its pins
abbrev pub feed_is_sized : WrittenFeed → Bool
feed_is_sized (Pin pin) = true
feed_is_sized (Table pins table) = is_sized (length pins) table

-- whether each table of a cell is of the right length
unfoldable pub tables_are_sized : WrittenKind → Bool
tables_are_sized (Comb inputs outputs) = outs_are_sized (length inputs) outputs
tables_are_sized (Flop clock state) = feed_is_sized state.feed
tables_are_sized (Latch gate state) = feed_is_sized state.feed
tables_are_sized (GateClock clock enable test output) = true
tables_are_sized (Memory address_bits width writes reads) = true

-- whether what feeds a flip-flop or a latch has at most 6 pins
abbrev pub feed_is_within : WrittenFeed → Bool
feed_is_within (Pin pin) = true
feed_is_within (Table pins table) = nat_le (length pins) 6

-- whether a cell is within the limits: at most 6 inputs of a table, 16 address bits, 1 to 128 bits
-- of a word and 16 ports
unfoldable pub is_within_limits : WrittenKind → Bool
is_within_limits (Comb inputs outputs) = nat_le (length inputs) 6
is_within_limits (Flop clock state) = feed_is_within state.feed
is_within_limits (Latch gate state) = feed_is_within state.feed
is_within_limits (GateClock clock enable test output) = true
is_within_limits (Memory address_bits width writes reads) =
    nat_le address_bits 16 && nat_le 1 width && nat_le width 128 && nat_le (length writes + length reads) 16
