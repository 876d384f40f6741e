-- Values written in hexadecimal, and the bits of a port that show them.
-- The rule is told in docs/FORMATS.md, "Openings and events".
use Rattle.std.specs.Prelude.{ℕ, ◌+◌, ◌*◌, ◌^◌, ◌&&◌, Bool, List, [], ◌∷◌, map, length, nat_lt}
use Rattle.std.specs.Char.{digit_value, is_digit}
use Rattle.std.specs.List.{list_all, enumerate_from}
use Rattle.id_arena.specs.declared.keys.NetId.{NetId}
use Rattle.design_core.specs.declared.values.PortBit.{PortBit}
use Rattle.design_core.specs.Operation.{bit_of}

-- a hexadecimal digit, in upper or lower case
abbrev pub is_hex : ℕ → Bool
is_hex b = is_digit b 16

-- The number that hexadecimal digits write: each digit counts 16 to the power of how many digits stand
-- after it.
abbrev pub hex_number : List ℕ → ℕ
hex_number [] = 0
hex_number (d ∷ ds) = digit_value d * 16 ^ length ds + hex_number ds

-- a value for so many bits: one hexadecimal digit or more, which write a number below 2 to the width
unfoldable pub is_value : ℕ → List ℕ → Bool
is_value width digits = nat_lt 0 (length digits) && list_all is_hex digits && nat_lt (hex_number digits) (2 ^ width)

-- each of some nets, from bit 0, with its bit of a number
abbrev pub shown_bits : List NetId → ℕ → List PortBit
shown_bits nets n = map (λ (k, net). record { net = net; value = bit_of n k }) (enumerate_from 0 nets)
