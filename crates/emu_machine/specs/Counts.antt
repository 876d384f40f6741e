-- Inside: how often each net of a chip is driven, counted in a table.
use Rattle.std.specs.Prelude.{◌≡◌, ◌≢◌, ◌<◌, ◌+◌, ℕ, Option, Some, None, List, length, get_or, slice_get, count_by, flat_map, min}
use Rattle.id_arena.specs.declared.keys.ChipNetId.{ChipNetId}
use Rattle.emu_machine.specs.declared.netlist.Chip.{Chip}
use Rattle.emu_machine.specs.declared.netlist.EmuGate.{EmuGate}
use Rattle.emu_machine.specs.declared.netlist.EmuMemory.{EmuMemory}
use Rattle.emu_machine.specs.declared.netlist.EmuRead.{EmuRead}
use Rattle.emu_machine.specs.declared.netlist.EmuRegister.{EmuRegister}
use Rattle.emu_machine.specs.Netlist.{is_chip_net, net_drivers}

-- how often some gates, registers or nets name net `n` as the one that they drive
abbrev pub gates_of : List EmuGate → ℕ → ℕ
gates_of gates n = count_by (λ gate. is_chip_net n gate.output) gates

abbrev pub registers_of : List EmuRegister → ℕ → ℕ
registers_of registers n = count_by (λ register. is_chip_net n register.q) registers

abbrev pub nets_of : List ChipNetId → ℕ → ℕ
nets_of nets n = count_by (is_chip_net n) nets

-- the nets that some read ports drive
abbrev pub port_nets : List EmuRead → List ChipNetId
port_nets ports = flat_map (λ port. port.bits) ports

-- the nets that the read ports of some memories drive
abbrev pub memory_nets : List EmuMemory → List ChipNetId
memory_nets memories = flat_map (λ memory. port_nets memory.reads) memories

-- to the count of each net so many drivers were added, up to 255
pub record Adds (times : ℕ → ℕ) (before after : List ℕ) : Type 0 where
  pub size : length after ≡ length before
  pub counts : (n : ℕ) → n < length before → get_or after n 0 ≡ min 255 (get_or before n 0 + times n)

-- the driven nets of these items are there
abbrev pub DriveBelow : {A : Type 0} → (A → ChipNetId) → ℕ → List A → Type 0
DriveBelow output nets items = (k : ℕ) (item : _) → slice_get items k ≡ Some item → (output item).place < nets

abbrev pub gate_output : EmuGate → ChipNetId
gate_output gate = gate.output

abbrev pub register_output : EmuRegister → ChipNetId
register_output register = register.q

abbrev pub itself : ChipNetId → ChipNetId
itself net = net

abbrev pub PortsBelow : ℕ → List EmuRead → Type 0
PortsBelow nets ports = (k : ℕ) (port : EmuRead) → slice_get ports k ≡ Some port → DriveBelow itself nets port.bits

abbrev pub MemoriesBelow : ℕ → List EmuMemory → Type 0
MemoriesBelow nets memories = (k : ℕ) (memory : EmuMemory) → slice_get memories k ≡ Some memory → PortsBelow nets memory.reads

-- the least place of a count that is not 1
pub record IsLeastOther (counts : List ℕ) (n : ℕ) : Type 0 where
  pub within : n < length counts
  pub here : get_or counts n 0 ≢ 1
  pub earlier : (m : ℕ) → m < n → get_or counts m 0 ≡ 1

abbrev pub TellsOther : List ℕ → Option ChipNetId → Type 0
TellsOther counts None = (n : ℕ) → n < length counts → get_or counts n 0 ≡ 1
TellsOther counts (Some net) = IsLeastOther counts net.place

-- the least net of a chip without exactly one driver
pub record IsLeastOfChip (chip : Chip) (n : ℕ) : Type 0 where
  pub there : n < chip.nets
  pub here : net_drivers chip n ≢ 1
  pub earlier : (m : ℕ) → m < n → net_drivers chip m ≡ 1

abbrev pub TellsMisdriven : Chip → Option ChipNetId → Type 0
TellsMisdriven chip None = (n : ℕ) → n < chip.nets → net_drivers chip n ≡ 1
TellsMisdriven chip (Some net) = IsLeastOfChip chip net.place
