-- Values written in hexadecimal, and the bits of a port that show them.
-- The rule is told in docs/FORMATS.md, "Openings and events".
use Rattle.std.specs.Prelude.{ℕ, ◌^◌, ◌<◌, List, length, IsTrue}
use Rattle.std.specs.List.{list_all}
use Rattle.domain_groups.specs.Values.{is_hex, hex_number}
pub use Rattle.domain_groups.specs.Values.{is_hex, hex_number, shown_bits}

-- a value for so many bits: one hexadecimal digit or more, which write a number below 2 to the width
pub record IsValue (width : ℕ) (digits : List ℕ) : Type 0 where
  pub some : 0 < length digits
  pub hex : IsTrue (list_all is_hex digits)
  pub fits : hex_number digits < 2 ^ width
