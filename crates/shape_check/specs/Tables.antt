-- Inside the rule A7: the tables of gates, and the rows of columns in which something holds.
use Rattle.std.specs.Prelude.{ℕ, ◌+◌, Bool, if◌then◌else◌, Option, Some, None, List, [], ◌∷◌, map, bit_and, bit_or, bit_xor}
use Rattle.id_arena.specs.declared.keys.NetId.{NetId}
use Rattle.design_core.specs.declared.operation.Op.TheVariants.{Table}
use Rattle.design_core.specs.declared.element.Level.{Level}
use Rattle.emu_machine.specs.declared.map.Subject.TheVariants.{Net}
use Rattle.design_core.specs.Operation.{number}
use Rattle.emu_machine.specs.Origins.{Origin, rows}

-- the table of a function of so many inputs, as a number
abbrev pub table : ℕ → (List Bool → Bool) → ℕ
table inputs function = number (map function (rows inputs))

-- how many inputs there are where resets stand behind so many
abbrev pub reset_inputs : ℕ → Option Level → Option Level → ℕ
reset_inputs first None None = first
reset_inputs first (Some clear) None = first + 1
reset_inputs first None (Some preset) = first + 1
reset_inputs first (Some clear) (Some preset) = first + 2

-- the rows in which a pin acts
abbrev pub acting : Level → ℕ → ℕ
acting level column = if level.high then column else bit_xor column 4294967295

-- the rows in which a reset acts, if it is there
abbrev pub acts : Option Level → ℕ → ℕ
acts None column = 0
acts (Some level) column = acting level column

-- the rows in which a value holds under a clear and a preset
abbrev pub held_by : ℕ → ℕ → ℕ → ℕ
held_by clear preset free = bit_and (bit_or free preset) (bit_xor clear 4294967295)

-- the column of a preset, where a clear has the first if it is there
abbrev pub behind : Option Level → ℕ → ℕ → ℕ
behind None first second = first
behind (Some clear) first second = second

-- the origin of a gate that shows an edge of a net by this table
abbrev pub edge_origin : ℕ → NetId → Origin
edge_origin bits n = record { op = Table bits; inputs = Net n ∷ Net n ∷ [] }
