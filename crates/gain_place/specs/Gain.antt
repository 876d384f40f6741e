-- Moves of elements from chip to chip, and their gains.
-- The rule is told in docs/RULES.md, "Cut and descent".
use Rattle.std.specs.Prelude.{ℤ, pos, ◌-ℤ◌, List, slice_set}
use Rattle.id_arena.specs.declared.keys.ChipId.{ChipId}
use Rattle.design_core.specs.declared.parts.Parts.{Parts}
use Rattle.gain_place.specs.declared.moves.Move.{Move}
use Rattle.gain_place.specs.Cut.{cut}

-- the placement after a move: one element has another chip
abbrev pub moved : List ChipId → Move → List ChipId
moved chips m = slice_set chips m.elem.place m.to

-- the gain of a move: the cut before it less the cut after it
unfoldable pub gain : Parts → List ChipId → Move → ℤ
gain p chips m = pos (cut p chips) -ℤ pos (cut p (moved chips m))
