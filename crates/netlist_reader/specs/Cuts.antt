-- Inside: the ports of a memory, cut out of its terminals.
use Rattle.std.specs.Prelude.{◌≡◌, ◌+◌, ◌*◌, ℕ, List, ◌++◌, length, flat_map}
use Rattle.id_arena.specs.declared.keys.ChipNetId.{ChipNetId}
use Rattle.emu_machine.specs.declared.netlist.EmuMemory.{EmuMemory}
use Rattle.emu_machine.specs.declared.netlist.EmuRead.{EmuRead}
use Rattle.emu_machine.specs.declared.netlist.EmuWrite.{EmuWrite}
use Rattle.netlist_writer.specs.NetlistText.{memory_pins, read_pins, write_pins}
use Rattle.netlist_reader.specs.Netlist.{Each}
use Rattle.netlist_reader.specs.declared.shape.MemoryShape.{MemoryShape}

-- the terminals of a write port, and of a read port
abbrev pub write_size : MemoryShape → ℕ
write_size shape = 1 + shape.address_bits + shape.width

-- the terminals of a read port
abbrev pub read_size : MemoryShape → ℕ
read_size shape = shape.address_bits + shape.width

-- all terminals
abbrev pub pin_count : MemoryShape → ℕ
pin_count shape = shape.writes * write_size shape + shape.reads * read_size shape

-- the write port has these terminals, with so many address bits
abbrev pub IsWriteCut : ℕ → List ChipNetId → EmuWrite → Type 0
IsWriteCut address_bits pins port = (length port.address ≡ address_bits) × (write_pins port ≡ pins)

-- the read port has these terminals, with so many address bits
abbrev pub IsReadCut : ℕ → List ChipNetId → EmuRead → Type 0
IsReadCut address_bits pins port = (length port.address ≡ address_bits) × (read_pins port ≡ pins)

-- the lists of a port have the sizes
abbrev pub IsWriteSized : MemoryShape → EmuWrite → Type 0
IsWriteSized shape port = (length port.address ≡ shape.address_bits) × (length port.feed ≡ shape.width)

-- the lists of a read port have the sizes
abbrev pub IsReadSized : MemoryShape → EmuRead → Type 0
IsReadSized shape port = (length port.address ≡ shape.address_bits) × (length port.bits ≡ shape.width)

-- the ports have these terminals
pub record AreWritesCut (shape : MemoryShape) (pins : List ChipNetId) (ports : List EmuWrite) : Type 0 where
  pub count : length ports ≡ shape.writes
  pub pins_are : flat_map write_pins ports ≡ pins
  pub sized : Each (IsWriteSized shape) ports

-- the read ports have these terminals
pub record AreReadsCut (shape : MemoryShape) (pins : List ChipNetId) (ports : List EmuRead) : Type 0 where
  pub count : length ports ≡ shape.reads
  pub pins_are : flat_map read_pins ports ≡ pins
  pub sized : Each (IsReadSized shape) ports

-- the ports so far, and the terminals that are left for so many more
pub record WritesSoFar (shape : MemoryShape) (pins left : List ChipNetId) (more : ℕ) (ports : List EmuWrite) : Type 0 where
  pub count : length ports + more ≡ shape.writes
  pub split : flat_map write_pins ports ++ left ≡ pins
  pub size : length left ≡ more * write_size shape
  pub sized : Each (IsWriteSized shape) ports

-- the read ports so far, and the terminals that are left for so many more
pub record ReadsSoFar (shape : MemoryShape) (pins left : List ChipNetId) (more : ℕ) (ports : List EmuRead) : Type 0 where
  pub count : length ports + more ≡ shape.reads
  pub split : flat_map read_pins ports ++ left ≡ pins
  pub size : length left ≡ more * read_size shape
  pub sized : Each (IsReadSized shape) ports

-- the memory has this form and these terminals
pub record IsCut (shape : MemoryShape) (pins : List ChipNetId) (memory : EmuMemory) : Type 0 where
  pub address_bits : memory.address_bits ≡ shape.address_bits
  pub width : memory.width ≡ shape.width
  pub writes : length memory.writes ≡ shape.writes
  pub reads : length memory.reads ≡ shape.reads
  pub pins_are : memory_pins memory ≡ pins
  pub write_sizes : Each (IsWriteSized shape) memory.writes
  pub read_sizes : Each (IsReadSized shape) memory.reads
