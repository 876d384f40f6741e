-- The text of a netlist, line by line.
-- The rule is told in docs/FORMATS.md, "The netlist".
use Rattle.std.specs.Prelude.{ℕ, false, List, [], ◌∷◌, ◌++◌, Option, Some, None, codes, decimal, flat_map, length}
use Rattle.std.specs.Fmt.{digits}
use Rattle.std.specs.List.{range_with_len, enumerate_from}
use Rattle.id_arena.specs.declared.keys.ChipNetId.{ChipNetId}
use Rattle.design_core.specs.declared.operation.Op.{Op}
use Rattle.design_core.specs.declared.operation.Op.TheVariants.{And, Nand, Or, Nor, Xor, Xnor, Buf, Not, Table}
use Rattle.emu_machine.specs.declared.netlist.Chip.{Chip}
use Rattle.emu_machine.specs.declared.netlist.EmuGate.{EmuGate}
use Rattle.emu_machine.specs.declared.netlist.EmuMemory.{EmuMemory}
use Rattle.emu_machine.specs.declared.netlist.EmuRead.{EmuRead}
use Rattle.emu_machine.specs.declared.netlist.EmuRegister.{EmuRegister}
use Rattle.emu_machine.specs.declared.netlist.EmuWrite.{EmuWrite}

-- a number in hexadecimal of lower case, without leading zeros
abbrev pub hex : ℕ → List ℕ
hex n = digits 16 false n

-- the name of a net
abbrev pub net_name : ChipNetId → List ℕ
net_name n = codes "n" ++ decimal n.place

-- the names of nets, with a comma and a space between
abbrev pub terminals : List ChipNetId → List ℕ
terminals [] = []
terminals (n ∷ nets) = net_name n ++ flat_map (λ m. codes ", " ++ net_name m) nets

-- the line of an instance: its form, its letter and number, and its terminals
abbrev pub instance_text : List ℕ → List ℕ → ℕ → List ChipNetId → List ℕ
instance_text form letter k nets =
    form ++ codes " " ++ letter ++ decimal k ++ codes " (" ++ terminals nets ++ codes ");\n"

-- the form of a gate with so many inputs
abbrev pub op_form : Op → ℕ → List ℕ
op_form And inputs = codes "and"
op_form Nand inputs = codes "nand"
op_form Or inputs = codes "or"
op_form Nor inputs = codes "nor"
op_form Xor inputs = codes "xor"
op_form Xnor inputs = codes "xnor"
op_form Buf inputs = codes "buf"
op_form Not inputs = codes "not"
op_form (Table table) inputs = codes "LUT" ++ decimal inputs ++ codes "_" ++ hex table

-- the output of a gate, and then its inputs
abbrev pub gate_text : ℕ × EmuGate → List ℕ
gate_text (k, gate) =
    instance_text (op_form gate.op (length gate.inputs)) (codes "g") k (gate.output ∷ gate.inputs)

-- the form of a register, by its D and its enable
abbrev pub register_form : Option ChipNetId → Option ChipNetId → List ℕ
register_form None enable = codes "EHOLD"
register_form (Some d) None = codes "EREG"
register_form (Some d) (Some enable) = codes "EREGE"

-- its terminals besides Q
abbrev pub register_pins : Option ChipNetId → Option ChipNetId → List ChipNetId
register_pins None enable = []
register_pins (Some d) None = d ∷ []
register_pins (Some d) (Some enable) = d ∷ enable ∷ []

abbrev pub register_text : ℕ × EmuRegister → List ℕ
register_text (k, register) =
    instance_text (register_form register.d register.enable) (codes "r") k (register.q ∷ register_pins register.d register.enable)

-- the terminals of a write port: enable, address and data
abbrev pub write_pins : EmuWrite → List ChipNetId
write_pins port = port.enable ∷ port.address ++ port.feed

-- the terminals of a read port: address and the nets that it drives
abbrev pub read_pins : EmuRead → List ChipNetId
read_pins port = port.address ++ port.bits

-- the form of a memory: address bits, width, write ports, read ports
abbrev pub memory_form : EmuMemory → List ℕ
memory_form memory =
    codes "EMEM_" ++ decimal memory.address_bits ++ codes "_" ++ decimal memory.width ++ codes "_" ++ decimal (length memory.writes) ++ codes "_" ++ decimal (length memory.reads)

abbrev pub memory_pins : EmuMemory → List ChipNetId
memory_pins memory = flat_map write_pins memory.writes ++ flat_map read_pins memory.reads

abbrev pub memory_text : ℕ × EmuMemory → List ℕ
memory_text (k, memory) = instance_text (memory_form memory) (codes "m") k (memory_pins memory)

-- the declaration of a net
abbrev pub wire_text : ℕ → List ℕ
wire_text k = codes "wire n" ++ decimal k ++ codes ";\n"

-- the lines of some items, numbered from 0
abbrev pub lines : {A : Type 0} → (ℕ × A → List ℕ) → List A → List ℕ
lines line items = flat_map line (enumerate_from 0 items)

-- the head of the module of a chip
abbrev pub head_text : ℕ → List ℕ
head_text c = codes "module chip" ++ decimal c ++ codes ";\n"

-- the module of a chip: its nets, gates, registers and memories, each in the order of the numbers
abbrev pub chip_text : ℕ × Chip → List ℕ
chip_text (c, chip) =
    head_text c
    ++ flat_map wire_text (range_with_len 0 chip.nets)
    ++ lines gate_text chip.gates
    ++ lines register_text chip.registers
    ++ lines memory_text chip.memories
    ++ codes "endmodule\n"

-- the text of a netlist: its chips in order
abbrev pub netlist_text : List Chip → List ℕ
netlist_text chips = lines chip_text chips
