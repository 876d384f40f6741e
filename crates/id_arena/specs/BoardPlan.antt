-- A board as plain lists. It stands in this crate, since the board's reader and the machine's
-- definitions both speak of it.
use Rattle.std.specs.Prelude.{ℕ, List}
use Rattle.id_arena.specs.declared.wire.Wire.{Wire}

-- the room of each chip, the wires by number, each from one chip to another, and the slots of a frame at most
pub record BoardPlan : Type 0 where
  pub rooms : List ℕ
  pub wires : List Wire
  pub slots : ℕ
