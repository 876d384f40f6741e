-- What gates make of a table of the values of a chip's nets.
-- The rule is told in docs/RULES.md, "Gates".
use Rattle.std.specs.Prelude.{◌≡◌, ◌<◌, ℕ, Bool, false, List, [], map, length, get_or}
use Rattle.id_arena.specs.declared.keys.ChipNetId.{ChipNetId}
use Rattle.design_core.specs.Operation.{op_value}
use Rattle.emu_machine.specs.declared.netlist.Chip.{Chip}
use Rattle.emu_machine.specs.declared.netlist.EmuGate.{EmuGate}
use Rattle.emu_machine.specs.Netlist.{through_gates}

-- the value of a net in a table of values
abbrev pub value_in : List Bool → ChipNetId → Bool
value_in table n = get_or table n.place false

abbrev pub values_in : List Bool → List ChipNetId → List Bool
values_in table nets = map (value_in table) nets

-- a value of a table of tables; what is not there is 0
abbrev pub cell : List (List Bool) → ℕ → ℕ → Bool
cell held c n = get_or (get_or held c []) n false

-- what a gate gives for the values of its inputs
abbrev pub gate_gives : EmuGate → List Bool → Bool
gate_gives gate bits = op_value gate.op bits

-- a table that has for each net of the chip what comes to it through gates
pub record AreShown (chip : Chip) (held shown : List Bool) : Type 0 where
  pub size : length shown ≡ chip.nets
  pub each : (n : ℕ) → n < chip.nets → get_or shown n false ≡ through_gates chip (λ k. get_or held k false) gate_gives n
