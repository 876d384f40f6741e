-- What the machine asks of results: parts that are there, no cycle of gates, and actions that fit.
-- The rules are told in docs/RULES.md, "Netlists of chips", "Actions, slots and frames" and "Acceptance".
use Rattle.std.specs.Prelude.{◌≡◌, ◌<◌, ◌≤◌, ◌^◌, ℕ, nat_lt, Bool, true, Some, List, [], length, get_or, slice_get, Contains, All, IfSome}
use Rattle.id_arena.specs.declared.keys.ChipNetId.{ChipNetId}
use Rattle.id_arena.specs.declared.wire.Wire.{Wire}
use Rattle.design_core.specs.Limits.{most_inputs}
use Rattle.emu_machine.specs.declared.netlist.Chip.{Chip}
use Rattle.emu_machine.specs.declared.netlist.EmuGate.{EmuGate}
use Rattle.emu_machine.specs.declared.netlist.EmuRegister.{EmuRegister}
use Rattle.emu_machine.specs.declared.netlist.EmuMemory.{EmuMemory}
use Rattle.emu_machine.specs.declared.netlist.EmuRead.{EmuRead}
use Rattle.emu_machine.specs.declared.netlist.EmuWrite.{EmuWrite}
use Rattle.emu_machine.specs.declared.schedule.Action.{Action}
use Rattle.emu_machine.specs.declared.schedule.Action.TheVariants.{Input, Load, Send, Write, Read}
use Rattle.emu_machine.specs.declared.schedule.Slot.{Slot}
use Rattle.emu_machine.specs.Results.{Results}
use Rattle.emu_machine.specs.Netlist.{chip_at, net_drivers, IsOnCycle}
use Rattle.emu_machine.specs.Building.{IsMemoryOf}
use Rattle.emu_machine.specs.State.{frame_slots, actions_of, read_port, write_port}
use Rattle.emu_machine.specs.Acceptance.{action_fits}

-- a net of a chip with so many nets
abbrev pub IsThere : ℕ → ChipNetId → Type 0
IsThere nets n = n.place < nets

-- a gate between nets of the chip, with no more inputs than its operation may have
pub record GateStands (nets : ℕ) (gate : EmuGate) : Type 0 where
  pub output : IsThere nets gate.output
  pub inputs : All (IsThere nets) gate.inputs
  pub few : length gate.inputs ≤ most_inputs gate.op

-- a register whose nets are of the chip
pub record RegisterStands (nets : ℕ) (register : EmuRegister) : Type 0 where
  pub q : IsThere nets register.q
  pub d : IfSome register.d (IsThere nets)
  pub enable : IfSome register.enable (IsThere nets)

-- A chip of such gates and registers, and of memories over its nets. Each of its nets has one driver, and no gate
-- lies on a cycle.
pub record ChipStands (chip : Chip) : Type 0 where
  pub drivers : (n : ℕ) → n < chip.nets → net_drivers chip n ≡ 1
  pub gates : (k : ℕ) (gate : EmuGate) → slice_get chip.gates k ≡ Some gate → GateStands chip.nets gate
  pub registers : (k : ℕ) (register : EmuRegister) → slice_get chip.registers k ≡ Some register → RegisterStands chip.nets register
  pub memories : (m : ℕ) (memory : EmuMemory) → slice_get chip.memories m ≡ Some memory → IsMemoryOf chip.nets memory
  pub no_cycle : (k : ℕ) → IsOnCycle chip k → ⊥

-- a register of a chip of the results
abbrev pub IsRegister : Results → ℕ → ℕ → Type 0
IsRegister r c k = (register : EmuRegister) × (slice_get (chip_at r.net c).registers k ≡ Some register)

-- each action of some slots fits there, as rule A5 asks, with the nets that have an outside value as inputs
abbrev pub SlotsStand : Results → List Wire → ℕ → List Slot → Type 0
SlotsStand r wires nets slots =
    (t : ℕ) (action : Action) → Contains (actions_of slots t) action
    → action_fits r.net wires (λ n. nat_lt n nets) (length slots) t action ≡ true

-- Results that the machine runs over these wires, where so many nets of the design have an outside value: by rule
-- A2 no gate lies on a cycle, and by rule A5 all actions fit.
pub record CanRun (r : Results) (wires : List Wire) (nets : ℕ) : Type 0 where
  pub no_cycle : (c k : ℕ) → IsOnCycle (chip_at r.net c) k → ⊥
  pub actions : (k : ℕ) → SlotsStand r wires nets (frame_slots r k)

-- a read port of a memory of a chip of the results
abbrev pub IsReadPort : Results → ℕ → ℕ → ℕ → Type 0
IsReadPort r c m k = (port : EmuRead) × (read_port r.net c m k ≡ Some port)

-- a write port likewise
abbrev pub IsWritePort : Results → ℕ → ℕ → ℕ → Type 0
IsWritePort r c m k = (port : EmuWrite) × (write_port r.net c m k ≡ Some port)

-- an address of a memory of a chip of the results
abbrev pub HasAddress : Results → ℕ → ℕ → ℕ → Type 0
HasAddress r c m a = (memory : EmuMemory) × (slice_get (chip_at r.net c).memories m ≡ Some memory) × (a < 2 ^ memory.address_bits)

-- ## Inside

-- the same results, with all that holds of each of their chips
pub record IsRunnable (r : Results) (wires : List Wire) (nets : ℕ) : Type 0 where
  pub rules : CanRun r wires nets
  pub chips : (c : ℕ) (chip : Chip) → slice_get r.net c ≡ Some chip → ChipStands chip

-- what an action names when it gives a register its value: an `input` a net that has an outside value, a `send` a
-- wire and a net of its first chip, and each the register; a `read` names its port
abbrev pub CanTake : Results → List Wire → ℕ → Action → Type 0
CanTake r wires nets (Input chip register net) = IsRegister r chip.place register.place × (net.place < nets)
CanTake r wires nets (Load chip register) = IsRegister r chip.place register.place
CanTake r wires nets (Send wire net register) =
    (ends : Wire) × (slice_get wires wire.place ≡ Some ends)
    × IsRegister r ends.to.place register.place
    × (net.place < (chip_at r.net ends.from.place).nets)
CanTake r wires nets (Write chip mem port) = Unit {0}
CanTake r wires nets (Read chip mem port) = IsReadPort r chip.place mem.place port

-- what an action names when it puts a value on a wire: the wire, and a net that its first chip shows
abbrev pub CanSend : List Wire → List (List Bool) → Action → Type 0
CanSend wires shown (Send wire net register) =
    (ends : Wire) × (slice_get wires wire.place ≡ Some ends)
    × (ends.from.place < length shown)
    × (net.place < length (get_or shown ends.from.place []))
CanSend wires shown (Input chip register net) = Unit {0}
CanSend wires shown (Load chip register) = Unit {0}
CanSend wires shown (Write chip mem port) = Unit {0}
CanSend wires shown (Read chip mem port) = Unit {0}

-- what an action names when it puts something in a word: a write port
abbrev pub CanStore : Results → Action → Type 0
CanStore r (Write chip mem port) = IsWritePort r chip.place mem.place port
CanStore r (Input chip register net) = Unit {0}
CanStore r (Load chip register) = Unit {0}
CanStore r (Send wire net register) = Unit {0}
CanStore r (Read chip mem port) = Unit {0}
