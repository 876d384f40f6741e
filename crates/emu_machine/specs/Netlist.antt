-- The netlists of chips: what drives a net, and what comes to a net through gates.
-- The rule is told in docs/RULES.md, "Netlists of chips".
use Rattle.std.specs.Prelude.{◌≡◌, ◌<◌, ◌+◌, ℕ, zero, suc, ◌==◌, Bool, Option, Some, List, [], map, length, slice_get, unwrap_or, find, count_by, flat_map, Contains}
use Rattle.std.specs.Option.{option_map_or}
use Rattle.id_arena.specs.declared.keys.ChipNetId.{ChipNetId}
use Rattle.emu_machine.specs.declared.netlist.Chip.{Chip}
use Rattle.emu_machine.specs.declared.netlist.EmuGate.{EmuGate}

-- a chip without anything, for a number that no chip has
abbrev pub no_chip : Chip
no_chip = record { nets = 0; gates = []; registers = []; memories = [] }

abbrev pub chip_at : List Chip → ℕ → Chip
chip_at chips c = unwrap_or (slice_get chips c) no_chip

abbrev pub is_chip_net : ℕ → ChipNetId → Bool
is_chip_net n m = m.place == n

-- the nets that the read ports of a chip drive
abbrev pub read_nets : Chip → List ChipNetId
read_nets chip = flat_map (λ memory. flat_map (λ port. port.bits) memory.reads) chip.memories

-- how many gates, registers and read ports drive a net
abbrev pub net_drivers : Chip → ℕ → ℕ
net_drivers chip n =
    count_by (λ gate. is_chip_net n gate.output) chip.gates
    + count_by (λ register. is_chip_net n register.q) chip.registers
    + count_by (is_chip_net n) (read_nets chip)

-- each net of each chip has one driver
abbrev pub IsNetlist : List Chip → Type 0
IsNetlist chips = (c n : ℕ) → n < (chip_at chips c).nets → net_drivers (chip_at chips c) n ≡ 1

-- the gate that drives a net, if a gate does
abbrev pub gate_of : Chip → ℕ → Option EmuGate
gate_of chip n = find (λ gate. is_chip_net n gate.output) chip.gates

-- What comes to a net, where `source` tells what registers and read ports put on the nets that they
-- drive, and `combine` what a gate makes of what comes to its inputs. At most `room` gates are passed;
-- where no gate lies on a cycle, as many as the chip has are enough.
abbrev pub on_net : {A : Type 0} → Chip → (ℕ → A) → (EmuGate → List A → A) → ℕ → ℕ → A
on_net chip source combine zero n = source n
on_net chip source combine (suc room) n =
    option_map_or
    (λ gate. combine gate (map (λ i. on_net chip source combine room i.place) gate.inputs))
    (gate_of chip n)
    (source n)

abbrev pub through_gates : {A : Type 0} → Chip → (ℕ → A) → (EmuGate → List A → A) → ℕ → A
through_gates chip source combine n = on_net chip source combine (length chip.gates) n

-- a gate leads to another where its output is an input of the other, or through gates between them
pub data LeadsTo (chip : Chip) : ℕ → ℕ → Type 0 where
  next : (j k : ℕ) (from to : EmuGate)
      → slice_get chip.gates j ≡ Some from
      → slice_get chip.gates k ≡ Some to
      → Contains to.inputs from.output
      → LeadsTo chip j k
  through : (i j k : ℕ) → LeadsTo chip i j → LeadsTo chip j k → LeadsTo chip i k

-- a gate lies on a cycle where it leads to itself
abbrev pub IsOnCycle : Chip → ℕ → Type 0
IsOnCycle chip k = LeadsTo chip k k
