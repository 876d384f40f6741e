-- What a reader of netlists takes from the front of a list of words: a line, all lines of one kind,
-- or nothing. The lines are those of PlainNetlist.antt.
use Rattle.std.specs.Prelude.{◌≡◌, ◌≢◌, ◌<◌, ◌^◌, ◌⊎◌, ℕ, Bool, true, false, List, [], ◌∷◌, ◌++◌, Option, Some, None, Result, Ok, Err, codes, slice_get, flat_map}
use Rattle.std.specs.List.{range_with_len, enumerate_from}
use Rattle.token_words.specs.Word.{Word, key, name}
use Rattle.verilog_lex.specs.declared.keyword.TheConstants.{BUF, NOT, WIRE}
use Rattle.id_arena.specs.declared.keys.ChipNetId.{ChipNetId}
use Rattle.emu_machine.specs.declared.netlist.Chip.{Chip}
use Rattle.emu_machine.specs.declared.netlist.EmuGate.{EmuGate}
use Rattle.emu_machine.specs.declared.netlist.EmuRegister.{EmuRegister}
use Rattle.emu_machine.specs.Plain.{IsPlainGate, IsPlainRegister}
use Rattle.result_files.specs.PlainNetlist.{numbered, gate_word, wire_words, gate_words}
use Rattle.design_core.specs.declared.operation.Op.{Op}
use Rattle.result_files.specs.declared.netlist_line.GateLine.{GateLine}
use Rattle.result_files.specs.declared.fault.FormFault.{FormFault}
use Rattle.result_files.specs.declared.fault.FormFault.TheVariants.{NotYet, NoMemory}

-- there is a first word, and it is of this kind
abbrev pub Begins : (Word → Type 0) → List Word → Type 0
Begins IsFirst [] = ⊥
Begins IsFirst (word ∷ words) = IsFirst word

-- the words that begin the line of a net, of a gate and of a register
abbrev pub IsWireWord : Word → Type 0
IsWireWord word = word ≡ key WIRE

abbrev pub IsGateWord : Word → Type 0
IsGateWord word = (word ≡ key BUF) ⊎ (word ≡ key NOT)

abbrev pub IsRegisterWord : Word → Type 0
IsRegisterWord word = word ≡ name (codes "EHOLD")

-- these words were taken, or do not stand in front
abbrev pub Takes : List Word → List Word → List Word → Bool → Type 0
Takes line before after true = before ≡ line ++ after
Takes line before after false = (rest : List Word) → before ≢ line ++ rest

-- the name of a letter and a number below 2^32 was taken, or no such name stands in front
abbrev pub TakesNumber : ℕ → List Word → List Word → Option ℕ → Type 0
TakesNumber letter before after None =
    (k : ℕ) (rest : List Word) → k < 2 ^ 32 → before ≢ numbered (letter ∷ []) k ∷ rest
TakesNumber letter before after (Some k) = before ≡ numbered (letter ∷ []) k ∷ after

-- of things that meet a condition and are written as a line, one was taken, or none stands in front
abbrev pub TakesOne : {A : Type 0} → (A → Type 0) → (A → List Word) → List Word → List Word → Option A → Type 0
TakesOne Is line before after None = (x : _) (rest : List Word) → Is x → before ≢ line x ++ rest
TakesOne Is line before after (Some x) = Is x × (before ≡ line x ++ after)

-- the nets of a chip with so many nets
abbrev pub IsNetBelow : ℕ → ChipNetId → Type 0
IsNetBelow nets n = n.place < nets

-- a chip with so many nets and nothing else
abbrev pub blank : ℕ → Chip
blank nets = record { nets = nets; gates = []; registers = []; memories = [] }

abbrev pub IsGateBelow : ℕ → EmuGate → Type 0
IsGateBelow nets gate = IsPlainGate (blank nets) gate

abbrev pub IsRegisterBelow : ℕ → EmuRegister → Type 0
IsRegisterBelow nets register = IsPlainRegister (blank nets) register

-- each item meets the condition
abbrev pub Each : {A : Type 0} → (A → Type 0) → List A → Type 0
Each Is items = (k : ℕ) (item : _) → slice_get items k ≡ Some item → Is item

-- the lines of the items, numbered from 0 on
abbrev pub lines : {A : Type 0} → (ℕ × A → List Word) → List A → List Word
lines line items = flat_map line (enumerate_from 0 items)

-- all lines that stand in front were taken, or what stands in front goes on with no such line
abbrev pub TakesLines : {A : Type 0} → (A → Type 0) → (ℕ × A → List Word) → (Word → Type 0) → List Word → List Word → Result (List A) FormFault → Type 0
TakesLines Is line IsFirst before after (Ok items) =
    Each Is items × (before ≡ lines line items ++ after) × (Begins IsFirst after → ⊥)
TakesLines Is line IsFirst before after (Err NotYet) =
    (items : _) (rest : List Word) → Each Is items → (Begins IsFirst rest → ⊥) → before ≢ lines line items ++ rest
TakesLines Is line IsFirst before after (Err NoMemory) = Unit {0}

-- the declarations of nets from 0 on
abbrev pub wires : ℕ → List Word
wires nets = flat_map wire_words (range_with_len 0 nets)

-- all declarations of nets were taken, or what stands in front goes on with none
abbrev pub TakesWires : List Word → List Word → Option ℕ → Type 0
TakesWires before after (Some nets) = (before ≡ wires nets ++ after) × (Begins IsWireWord after → ⊥)
TakesWires before after None =
    (nets : ℕ) (rest : List Word) → (Begins IsWireWord rest → ⊥) → before ≢ wires nets ++ rest

-- a gate with one input, as it stands in a line
abbrev pub gate_of : GateLine → EmuGate
gate_of line = record { op = line.op; output = line.output; inputs = line.input ∷ [] }

abbrev pub IsLineBelow : ℕ → GateLine → Type 0
IsLineBelow nets line = IsGateBelow nets (gate_of line)

abbrev pub line_words : ℕ → GateLine → List Word
line_words number line = gate_words (number, gate_of line)

abbrev pub op_words : Op → List Word
op_words op = key (gate_word op) ∷ []
