-- The netlists as texts of words, with one line for each form.
-- The rule is told in docs/FORMATS.md, "The netlist".
use Rattle.std.specs.Prelude.{◌≡◌, ◌<◌, ◌^◌, ℕ, List, [], ◌∷◌, ◌++◌, Some, codes, decimal, flat_map, length, slice_get}
use Rattle.std.specs.List.{range_with_len, enumerate_from}
use Rattle.token_words.specs.Word.{Word, key, name, open_parenthesis, close_parenthesis, comma, semicolon}
use Rattle.verilog_lex.specs.declared.keyword.TheConstants.{AND, BUF, ENDMODULE, MODULE, NAND, NOR, NOT, OR, WIRE, XNOR, XOR}
use Rattle.id_arena.specs.declared.keys.ChipNetId.{ChipNetId}
use Rattle.design_core.specs.declared.operation.Op.{Op}
use Rattle.design_core.specs.declared.operation.Op.TheVariants.{And, Nand, Or, Nor, Xor, Xnor, Buf, Not, Table}
use Rattle.emu_machine.specs.declared.netlist.Chip.{Chip}
use Rattle.emu_machine.specs.declared.netlist.EmuGate.{EmuGate}
use Rattle.emu_machine.specs.declared.netlist.EmuMemory.{EmuMemory}
use Rattle.emu_machine.specs.declared.netlist.EmuRegister.{EmuRegister}
use Rattle.emu_machine.specs.Building.{IsGateOf, IsMemoryOf, IsRegisterOf}
use Rattle.netlist_writer.specs.NetlistText.{net_name, op_form, register_form, register_pins, memory_form, memory_pins}

-- the name of a stem and a number, as n12
abbrev pub numbered : List ℕ → ℕ → Word
numbered stem k = name (stem ++ decimal k)

-- the name of a net
abbrev pub net_word : ChipNetId → Word
net_word n = name (net_name n)

-- terminals, each after a comma
abbrev pub more_words : List ChipNetId → List Word
more_words nets = flat_map (λ n. comma ∷ net_word n ∷ []) nets

-- terminals with commas between, and the parenthesis that closes them
abbrev pub closed_words : List ChipNetId → List Word
closed_words [] = close_parenthesis ∷ []
closed_words (n ∷ nets) = net_word n ∷ (more_words nets ++ close_parenthesis ∷ [])

-- what stands in an instance's line behind its form: `gK (output, input);`
abbrev pub pin_words : List ℕ → ℕ → List ChipNetId → List Word
pin_words stem k nets = numbered stem k ∷ open_parenthesis ∷ (closed_words nets ++ semicolon ∷ [])

-- the form of a gate with so many inputs: one of the eight reserved words, or the name of a table
abbrev pub op_word : Op → ℕ → Word
op_word And inputs = key AND
op_word Nand inputs = key NAND
op_word Or inputs = key OR
op_word Nor inputs = key NOR
op_word Xor inputs = key XOR
op_word Xnor inputs = key XNOR
op_word Buf inputs = key BUF
op_word Not inputs = key NOT
op_word (Table table) inputs = name (op_form (Table table) inputs)

-- the form of a gate
abbrev pub gate_form : EmuGate → Word
gate_form gate = op_word gate.op (length gate.inputs)

-- its output, and then its inputs
abbrev pub gate_pins : EmuGate → List ChipNetId
gate_pins gate = gate.output ∷ gate.inputs

-- `GATE gK (output, input);`
abbrev pub gate_words : ℕ × EmuGate → List Word
gate_words (k, gate) = gate_form gate ∷ pin_words (codes "g") k (gate_pins gate)

-- the form of a register
abbrev pub form_of_register : EmuRegister → Word
form_of_register register = name (register_form register.d register.enable)

-- its Q, and D and the enable where they are there
abbrev pub pins_of_register : EmuRegister → List ChipNetId
pins_of_register register = register.q ∷ register_pins register.d register.enable

-- `EREG rK (q, d);`
abbrev pub register_words : ℕ × EmuRegister → List Word
register_words (k, register) = form_of_register register ∷ pin_words (codes "r") k (pins_of_register register)

-- `EMEM_a_w_p_r mK (..);`
abbrev pub memory_words : ℕ × EmuMemory → List Word
memory_words (k, memory) = name (memory_form memory) ∷ pin_words (codes "m") k (memory_pins memory)

-- `wire nK;`
abbrev pub wire_words : ℕ → List Word
wire_words k = key WIRE ∷ numbered (codes "n") k ∷ semicolon ∷ []

-- the declarations of so many nets
abbrev pub wires : ℕ → List Word
wires nets = flat_map wire_words (range_with_len 0 nets)

-- the lines of the items, numbered from 0
abbrev pub lines : {A : Type 0} → (ℕ × A → List Word) → List A → List Word
lines line items = flat_map line (enumerate_from 0 items)

-- `module chipC;`
abbrev pub head_words : ℕ → List Word
head_words c = key MODULE ∷ numbered (codes "chip") c ∷ semicolon ∷ []

-- what stands behind the head of a chip's module: its nets, gates, registers and memories, each in the order
-- of the numbers, and the end
abbrev pub body_words : Chip → List Word
body_words chip =
    wires chip.nets ++ (lines gate_words chip.gates
    ++ (lines register_words chip.registers ++ (lines memory_words chip.memories ++ key ENDMODULE ∷ [])))

-- the module of a chip
abbrev pub chip_words : ℕ × Chip → List Word
chip_words (c, chip) = head_words c ++ body_words chip

-- the netlist of some chips
abbrev pub netlist_words : List Chip → List Word
netlist_words chips = lines chip_words chips

-- each item meets the condition
abbrev pub Each : {A : Type 0} → (A → Type 0) → List A → Type 0
Each Is items = (k : ℕ) (item : _) → slice_get items k ≡ Some item → Is item

-- the gates, registers and memories of a chip are of the forms, over its nets, whose numbers have 32 bits
pub record HasForms (chip : Chip) : Type 0 where
  pub few : chip.nets < 2 ^ 32
  pub gates : Each (IsGateOf chip.nets) chip.gates
  pub registers : Each (IsRegisterOf chip.nets) chip.registers
  pub memories : Each (IsMemoryOf chip.nets) chip.memories

-- the words are the netlist of these chips
pub record SaysChips (words : List Word) (chips : List Chip) : Type 0 where
  pub words_are : words ≡ netlist_words chips
  pub forms : Each HasForms chips

-- words stand for at most one list of chips
abbrev pub NetlistsAreToldApart : Type 0
NetlistsAreToldApart =
    (words : List Word) (first second : List Chip) → SaysChips words first → SaysChips words second → first ≡ second
