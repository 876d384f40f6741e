-- The netlists of one chip of `buf` and `not` gates and of registers without D, as texts.
-- The rule is told in docs/FORMATS.md, "The netlist".
use Rattle.std.specs.Prelude.{◌≡◌, ◌<◌, ◌^◌, ℕ, List, [], ◌∷◌, ◌++◌, codes, decimal, flat_map, length}
use Rattle.std.specs.List.{range_with_len, enumerate_from}
use Rattle.verilog_lex.specs.declared.token.Token.{Token}
use Rattle.token_words.specs.Word.{Word, key, name, open_parenthesis, close_parenthesis, comma, semicolon}
use Rattle.token_words.specs.Words.{words_of}
use Rattle.verilog_lex.specs.declared.keyword.TheConstants.{BUF, ENDMODULE, MODULE, NOT, WIRE}
use Rattle.id_arena.specs.declared.keys.ChipNetId.{ChipNetId}
use Rattle.design_core.specs.declared.operation.Op.{Op}
use Rattle.design_core.specs.declared.operation.Op.TheVariants.{Not}
use Rattle.emu_machine.specs.declared.netlist.Chip.{Chip}
use Rattle.emu_machine.specs.declared.netlist.EmuGate.{EmuGate}
use Rattle.emu_machine.specs.declared.netlist.EmuRegister.{EmuRegister}
use Rattle.emu_machine.specs.Netlist.{IsNetlist}
use Rattle.emu_machine.specs.Plain.{IsPlainChip}

-- the name of a letter and a number, as n12
abbrev pub numbered : List ℕ → ℕ → Word
numbered letter k = name (letter ++ decimal k)

abbrev pub net_word : ChipNetId → Word
net_word n = numbered (codes "n") n.place

-- the reserved word of a plain gate, which is a `not` or a `buf`
abbrev pub gate_word : Op → ℕ
gate_word Not = NOT
gate_word other = BUF

-- the inputs of a gate, each after a comma
abbrev pub input_words : List ChipNetId → List Word
input_words inputs = flat_map (λ input. comma ∷ net_word input ∷ []) inputs

-- `wire nK;`
abbrev pub wire_words : ℕ → List Word
wire_words k = key WIRE ∷ numbered (codes "n") k ∷ semicolon ∷ []

-- `GATE gK (output, input);`
abbrev pub gate_words : ℕ × EmuGate → List Word
gate_words (k, gate) =
    key (gate_word gate.op) ∷ numbered (codes "g") k ∷ open_parenthesis ∷ net_word gate.output ∷ (input_words gate.inputs ++ close_parenthesis ∷ semicolon ∷ [])

-- `EHOLD rK (q);`
abbrev pub register_words : ℕ × EmuRegister → List Word
register_words (k, register) =
    name (codes "EHOLD") ∷ numbered (codes "r") k ∷ open_parenthesis ∷ net_word register.q ∷ close_parenthesis ∷ semicolon ∷ []

-- `module chip0;`
abbrev pub head_words : List Word
head_words = key MODULE ∷ name (codes "chip0") ∷ semicolon ∷ []

-- the module of the chip: its nets, its gates and its registers, each in the order of the numbers
abbrev pub netlist_words : Chip → List Word
netlist_words chip =
    head_words ++ (flat_map wire_words (range_with_len 0 chip.nets)
    ++ (flat_map gate_words (enumerate_from 0 chip.gates)
    ++ (flat_map register_words (enumerate_from 0 chip.registers) ++ key ENDMODULE ∷ [])))

-- the words are those of a plain chip
pub record IsChipOf (words : List Word) (chip : Chip) : Type 0 where
  pub words_are : words ≡ netlist_words chip
  pub plain : IsPlainChip chip

-- the words of the text are those of a plain chip whose nets have one driver each
pub record SaysChip (source : List ℕ) (tokens : List Token) (chip : Chip) : Type 0 where
  pub chip_is : IsChipOf (words_of source tokens) chip
  pub driven : IsNetlist (chip ∷ [])

-- a text of fewer than 2^32 tokens writes down at most one chip
abbrev pub TextsTellChipsApart : Type 0
TextsTellChipsApart =
    (source : List ℕ) (tokens : List Token) (first second : Chip) → length tokens < 2 ^ 32 → SaysChip source tokens first → SaysChip source tokens second → first ≡ second
