-- A worked case of the cut and of the gain of a move.
-- The case is told in docs/RULES.md, "Cut and descent".
use Rattle.std.specs.Prelude.{◌≡◌, ℕ, pos, List, [], ◌∷◌, None, replicate}
use Rattle.id_arena.specs.declared.keys.ChipId.{ChipId}
use Rattle.id_arena.specs.declared.keys.NetId.{NetId}
use Rattle.design_core.specs.declared.element.Element.TheVariants as element
use Rattle.design_core.specs.declared.operation.Op.TheVariants.{And, Buf}
use Rattle.design_core.specs.declared.parts.Parts.{Parts}
use Rattle.gain_place.specs.Cut.{cut}
use Rattle.gain_place.specs.Gain.{gain}

-- a net, by number
abbrev pub net : ℕ → NetId
net n = record { place = n }

-- a chip, by number
abbrev pub chip : ℕ → ChipId
chip c = record { place = c }

-- an input 2; a buffer of it, net 5; an `and` of it with itself, the output 4; and a buffer of net 5, the output 3
abbrev pub example : Parts
example = record {
  net_names = replicate 6 (record { scope = 0; name = []; index = None });
  scopes = record { parent = None; name = [] } ∷ [];
  elements =
      element.Gate Buf (net 2 ∷ []) (net 5)
      ∷ element.Gate And (net 2 ∷ net 2 ∷ []) (net 4)
      ∷ element.Gate Buf (net 5 ∷ []) (net 3) ∷ [];
  paths = 0 ∷ 0 ∷ 0 ∷ [];
  memories = [];
  inputs = record { name = []; nets = net 2 ∷ [] } ∷ [];
  outputs = record { name = []; nets = net 3 ∷ [] } ∷ record { name = []; nets = net 4 ∷ [] } ∷ [];
}

-- the first two elements on chip 0, and the last on chip 1
abbrev pub start : List ChipId
start = chip 0 ∷ chip 0 ∷ chip 1 ∷ []

-- the cut is 1; moving element 0 to chip 1 leaves it 0, so the move gains 1
abbrev pub ExampleHolds : Type 0
ExampleHolds =
    (cut example start ≡ 1)
    × (cut example (chip 1 ∷ chip 0 ∷ chip 1 ∷ []) ≡ 0)
    × (gain example start (record { elem = record { place = 0 }; to = chip 1 }) ≡ pos 1)
