-- Inside: hexadecimal digits put down from the last.
use Rattle.std.specs.Prelude.{◌≡◌, ◌<◌, ◌≤◌, ◌+◌, ◌^◌, ℕ, false, List, length, drop}
use Rattle.std.specs.Fmt.{digits_onto}
use Rattle.netlist_writer.specs.NetlistText.{hex}

-- `rest` is what is left of a number, and the digits from `first` on are there
pub record HexLeft (digits : List ℕ) (first rest number : ℕ) : Type 0 where
  pub size : length digits ≡ 16
  pub some : 0 < first
  pub within : first ≤ 16
  pub small : rest < 16 ^ first
  pub left : digits_onto (48 + first) 16 false rest (drop first digits) ≡ hex number
