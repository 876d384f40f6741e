-- What chips must be for a netlist to be built of them, and what building gives.
-- The rules are told in docs/RULES.md, "Netlists of chips", and in docs/FORMATS.md, "The netlist".
use Rattle.std.specs.Prelude.{◌≡◌, ◌≢◌, ◌<◌, ◌≤◌, ◌+◌, ◌⊎◌, ℕ, Some, List, length, slice_get, sum_by, Result, Ok, Err, IsTrue, IfSome, IsSome}
use Rattle.id_arena.specs.declared.keys.ChipNetId.{ChipNetId}
use Rattle.design_core.specs.Design.{inputs_fit}
use Rattle.design_core.specs.Limits.{most_inputs}
use Rattle.design_core.specs.Most.{most_address_bits, most_width, most_ports, most_places}
use Rattle.emu_machine.specs.declared.netlist.Chip.{Chip}
use Rattle.emu_machine.specs.declared.netlist.EmuGate.{EmuGate}
use Rattle.emu_machine.specs.declared.netlist.EmuMemory.{EmuMemory}
use Rattle.emu_machine.specs.declared.netlist.EmuRead.{EmuRead}
use Rattle.emu_machine.specs.declared.netlist.EmuRegister.{EmuRegister}
use Rattle.emu_machine.specs.declared.netlist.EmuWrite.{EmuWrite}
use Rattle.emu_machine.specs.declared.emu_net.BuildFault.{BuildFault}
use Rattle.emu_machine.specs.declared.emu_net.BuildFault.TheVariants.{ShapeFault, NoMemory}
use Rattle.emu_machine.specs.Netlist.{chip_at, net_drivers, IsNetlist}

-- all of these are nets of a chip with so many
abbrev pub AreNetsOf : ℕ → List ChipNetId → Type 0
AreNetsOf nets named = (k : ℕ) (n : ChipNetId) → slice_get named k ≡ Some n → n.place < nets

-- a gate with as many inputs as its word or its table asks for, over nets of the chip
pub record IsGateOf (nets : ℕ) (gate : EmuGate) : Type 0 where
  pub form : IsTrue (inputs_fit gate.op (length gate.inputs))
  pub few : length gate.inputs ≤ most_inputs gate.op
  pub output : gate.output.place < nets
  pub inputs : AreNetsOf nets gate.inputs

-- a register of one of the three forms, over nets of the chip: one with an enable has a D
pub record IsRegisterOf (nets : ℕ) (register : EmuRegister) : Type 0 where
  pub q : register.q.place < nets
  pub d : IfSome register.d (λ n. n.place < nets)
  pub enable : IfSome register.enable (λ n. n.place < nets)
  pub loaded : IsSome register.enable → IsSome register.d

-- a write port has as many address and data nets as its memory says
pub record IsWriteOf (nets : ℕ) (memory : EmuMemory) (port : EmuWrite) : Type 0 where
  pub enable : port.enable.place < nets
  pub address : AreNetsOf nets port.address
  pub feed : AreNetsOf nets port.feed
  pub address_bits : length port.address ≡ memory.address_bits
  pub width : length port.feed ≡ memory.width

-- a read port has as many address and read nets as its memory says
pub record IsReadOf (nets : ℕ) (memory : EmuMemory) (port : EmuRead) : Type 0 where
  pub address : AreNetsOf nets port.address
  pub bits : AreNetsOf nets port.bits
  pub address_bits : length port.address ≡ memory.address_bits
  pub width : length port.bits ≡ memory.width

-- a memory within the limits of a cell, over nets of the chip
pub record IsMemoryOf (nets : ℕ) (memory : EmuMemory) : Type 0 where
  pub address_bits : memory.address_bits ≤ most_address_bits
  pub some_width : 0 < memory.width
  pub width : memory.width ≤ most_width
  pub ports : length memory.writes + length memory.reads ≤ most_ports
  pub writes : (k : ℕ) (port : EmuWrite) → slice_get memory.writes k ≡ Some port → IsWriteOf nets memory port
  pub reads : (k : ℕ) (port : EmuRead) → slice_get memory.reads k ≡ Some port → IsReadOf nets memory port

-- a chip of such gates, registers and memories; they and all inputs of gates have numbers of 32 bits
pub record IsChip (chip : Chip) : Type 0 where
  pub gates : (k : ℕ) (gate : EmuGate) → slice_get chip.gates k ≡ Some gate → IsGateOf chip.nets gate
  pub registers : (k : ℕ) (register : EmuRegister) → slice_get chip.registers k ≡ Some register → IsRegisterOf chip.nets register
  pub memories : (k : ℕ) (memory : EmuMemory) → slice_get chip.memories k ≡ Some memory → IsMemoryOf chip.nets memory
  pub few_gates : length chip.gates ≤ most_places
  pub few_registers : length chip.registers ≤ most_places
  pub few_memories : length chip.memories ≤ most_places
  pub few_inputs : sum_by (λ gate. length gate.inputs) chip.gates ≤ most_places

pub record AreChips (chips : List Chip) : Type 0 where
  pub few : length chips ≤ most_places
  pub each : (c : ℕ) (chip : Chip) → slice_get chips c ≡ Some chip → IsChip chip

-- what holds of every netlist that was built: its chips, and that each net has one driver
pub record IsBuilt (chips : List Chip) : Type 0 where
  pub formed : AreChips chips
  pub netlist : IsNetlist chips

-- Net `n` of chip `c` has not exactly one driver, and each net before it, by chip and then by number, has one.
pub record IsLeastMisdriven (chips : List Chip) (c n : ℕ) : Type 0 where
  pub there : n < (chip_at chips c).nets
  pub here : net_drivers (chip_at chips c) n ≢ 1
  pub earlier : (b m : ℕ) → m < (chip_at chips b).nets → (b < c) ⊎ ((b ≡ c) × (m < n)) → net_drivers (chip_at chips b) m ≡ 1

-- building gives a netlist of just these chips, or the least net without exactly one driver
abbrev pub Builds : List Chip → Result (List Chip) BuildFault → Type 0
Builds chips (Ok net) = (net ≡ chips) × IsNetlist chips
Builds chips (Err NoMemory) = Unit {0}
Builds chips (Err (ShapeFault chip net)) = IsLeastMisdriven chips chip.place net.place
