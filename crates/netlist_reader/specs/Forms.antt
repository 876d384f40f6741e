-- Inside: the forms of lines, as a reader tells them by their first word.
use Rattle.std.specs.Prelude.{◌≡◌, ◌≢◌, ◌<◌, ◌≤◌, ◌+◌, ◌^◌, ℕ, List, ◌++◌, Option, Some, None, IsTrue, ◌==◌, if◌then◌else◌, codes, decimal, length}
use Rattle.token_words.specs.Word.{Word, key, mark, name}
use Rattle.id_arena.specs.declared.keys.ChipNetId.{ChipNetId}
use Rattle.design_core.specs.declared.operation.Op.{Op}
use Rattle.design_core.specs.declared.operation.Op.TheVariants.{Table}
use Rattle.design_core.specs.Design.{inputs_fit}
use Rattle.design_core.specs.Limits.{most_inputs}
use Rattle.design_core.specs.Most.{most_address_bits, most_width, most_ports}
use Rattle.emu_machine.specs.declared.netlist.EmuGate.{EmuGate}
use Rattle.emu_machine.specs.declared.netlist.EmuMemory.{EmuMemory}
use Rattle.emu_machine.specs.declared.netlist.EmuRegister.{EmuRegister}
use Rattle.emu_machine.specs.Building.{IsGateOf, IsMemoryOf, IsRegisterOf}
use Rattle.netlist_writer.specs.NetlistText.{op_form, memory_form, register_form}
use Rattle.netlist_reader.specs.Netlist.{numbered, op_word, gate_form, form_of_register}
use Rattle.netlist_reader.specs.Inside.{Begins, NoMore}
use Rattle.netlist_reader.specs.Cuts.{pin_count}
use Rattle.netlist_reader.specs.declared.piece.Piece.{Piece}
use Rattle.netlist_reader.specs.declared.piece.Piece.TheVariants.{Key, Mark, Numbered}
use Rattle.netlist_reader.specs.declared.piece.Stem.{Stem}
use Rattle.netlist_reader.specs.declared.piece.Stem.TheVariants as stem
use Rattle.netlist_reader.specs.declared.shape.GateShape.{GateShape}
use Rattle.netlist_reader.specs.declared.shape.MemoryShape.{MemoryShape}

-- what stands before the number in a name
abbrev pub stem_text : Stem → List ℕ
stem_text stem.Chip = codes "chip"
stem_text stem.Net = codes "n"
stem_text stem.Gate = codes "g"
stem_text stem.Register = codes "r"
stem_text stem.Memory = codes "m"

-- the word that is due
abbrev pub piece_word : Piece → Word
piece_word (Key place) = key place
piece_word (Mark byte) = mark byte
piece_word (Numbered stem k) = numbered (stem_text stem) k

-- the next word is this reserved word, or is none
abbrev pub TellsKey : List Word → Option ℕ → Type 0
TellsKey words (Some place) = Begins (λ w. w ≡ key place) words
TellsKey words None = (place : ℕ) → Begins (λ w. w ≡ key place) words → ⊥

-- these are the bytes of the next word, where it is a name, and else none
pub record TellsName (words : List Word) (bytes : List ℕ) : Type 0 where
  pub there : 0 < length bytes → Begins (λ w. w ≡ name bytes) words
  pub only : (other : List ℕ) → Begins (λ w. w ≡ name other) words → other ≡ bytes

-- a word is the form of a gate with this operation, and with so many inputs at least and at most
pub record IsShapeOf (shape : GateShape) (word : Word) : Type 0 where
  pub order : shape.least ≤ shape.most
  pub fits : (n : ℕ) → shape.least ≤ n → n ≤ shape.most → (op_word shape.op n ≡ word) × IsTrue (inputs_fit shape.op n) × (n ≤ most_inputs shape.op)
  pub only : (op : Op) (n : ℕ) → op_word op n ≡ word → IsTrue (inputs_fit op n) → n ≤ most_inputs op → (op ≡ shape.op) × (shape.least ≤ n) × (n ≤ shape.most)

-- no word is the form of a gate
abbrev pub IsNoForm : Word → Type 0
IsNoForm word = (op : Op) (n : ℕ) → op_word op n ≡ word → IsTrue (inputs_fit op n) → n ≤ most_inputs op → ⊥

-- the form that a word is, or that it is none
abbrev pub ShapeIs : Word → Option GateShape → Type 0
ShapeIs word (Some shape) = IsShapeOf shape word
ShapeIs word None = IsNoForm word

-- some gate over so many nets has this form
abbrev pub IsGateFirst : ℕ → Word → Type 0
IsGateFirst nets word = (gate : EmuGate) × IsGateOf nets gate × (gate_form gate ≡ word)

-- some register over so many nets has this form
abbrev pub IsRegisterFirst : ℕ → Word → Type 0
IsRegisterFirst nets word = (register : EmuRegister) × IsRegisterOf nets register × (form_of_register register ≡ word)

-- some memory over so many nets has this form
abbrev pub IsMemoryFirst : ℕ → Word → Type 0
IsMemoryFirst nets word = (memory : EmuMemory) × IsMemoryOf nets memory × (name (memory_form memory) ≡ word)

-- the next word is the form of gates over so many nets, or of none
abbrev pub ShowsGate : ℕ → List Word → Option GateShape → Type 0
ShowsGate nets words (Some shape) = Begins (IsShapeOf shape) words × (0 < nets)
ShowsGate nets words None = NoMore (IsGateFirst nets) words

-- the name of a table gate, with its inputs and its table
abbrev pub TellsTable : List ℕ → Option (ℕ × ℕ) → Type 0
TellsTable bytes (Some found) = (found.0 ≤ 6) × (found.1 < 2 ^ (2 ^ found.0)) × (bytes ≡ op_form (Table found.1) found.0)
TellsTable bytes None = (k h : ℕ) → k ≤ 6 → h < 2 ^ (2 ^ k) → bytes ≢ op_form (Table h) k

-- the form of a register with so many terminals
abbrev pub register_text : ℕ → List ℕ
register_text pins = if pins == 1 then codes "EHOLD" else (if pins == 2 then codes "EREG" else codes "EREGE")

-- the name is the form of registers with so many terminals, or of none
abbrev pub TellsRegister : List ℕ → Option ℕ → Type 0
TellsRegister bytes (Some pins) = (0 < pins) × (pins ≤ 3) × (bytes ≡ register_text pins)
TellsRegister bytes None = (d enable : Option ChipNetId) → bytes ≢ register_form d enable

-- the name of a form of memories
abbrev pub memory_text : MemoryShape → List ℕ
memory_text shape =
    codes "EMEM_" ++ decimal shape.address_bits ++ codes "_" ++ decimal shape.width ++ codes "_" ++ decimal shape.writes ++ codes "_" ++ decimal shape.reads

-- it is within the limits of a cell
pub record IsPossible (shape : MemoryShape) : Type 0 where
  pub address_bits : shape.address_bits ≤ most_address_bits
  pub some_width : 0 < shape.width
  pub width : shape.width ≤ most_width
  pub ports : shape.writes + shape.reads ≤ most_ports

-- the name is this form of memories, or none that is possible
abbrev pub TellsMemory : List ℕ → Option MemoryShape → Type 0
TellsMemory bytes (Some shape) = IsPossible shape × (bytes ≡ memory_text shape)
TellsMemory bytes None = (shape : MemoryShape) → IsPossible shape → bytes ≢ memory_text shape

-- the next word is the form of registers over so many nets, or of none
abbrev pub ShowsRegister : ℕ → List Word → Option ℕ → Type 0
ShowsRegister nets words (Some pins) = Begins (λ w. w ≡ name (register_text pins)) words × (0 < pins) × (pins ≤ 3) × (0 < nets)
ShowsRegister nets words None = NoMore (IsRegisterFirst nets) words

-- the next word is the form of memories over so many nets, or of none
abbrev pub ShowsMemory : ℕ → List Word → Option MemoryShape → Type 0
ShowsMemory nets words (Some shape) =
    Begins (λ w. w ≡ name (memory_text shape)) words × IsPossible shape × (0 < pin_count shape → 0 < nets)
ShowsMemory nets words None = NoMore (IsMemoryFirst nets) words
