-- The chip that the words of a netlist say.
use Rattle.std.proofs.Common.{◌≡◌, ◌≢◌, ◌↔◌, ◌-◌, ◌<◌, ◌^◌, ℕ, Bool, true, false, IsTrue, List, [], ◌∷◌, ◌++◌, Err, length, drop, refl, sym, ap, ◌∙◌, subst, arith, inl, inr}
use Rattle.std.specs.Prelude.{codes}
use Rattle.std.proofs.lemmas.List.{length-drop, length-map}
use Rattle.verilog_lex.specs.declared.token.Token.{Token}
use Rattle.token_words.specs.Word.{Word, key, name}
use Rattle.token_words.specs.Words.{word_of, words_of}
use Rattle.verilog_lex.specs.declared.keyword.TheConstants.{BUF, ENDMODULE, NOT, WIRE}
use Rattle.design_core.specs.declared.operation.Op.{Op}
use Rattle.design_core.specs.Plain.{IsPlainOp}
use Rattle.emu_machine.specs.declared.netlist.Chip.{Chip}
use Rattle.emu_machine.specs.declared.netlist.EmuGate.{EmuGate}
use Rattle.emu_machine.specs.declared.netlist.EmuRegister.{EmuRegister}
use Rattle.emu_machine.specs.Netlist.{IsNetlist}
use Rattle.emu_machine.specs.Plain.{IsPlainChip, IsPlainGate, IsPlainRegister}
use Rattle.result_files.specs.Faults.{Answers}
use Rattle.result_files.specs.declared.fault.FormFault.{FormFault}
use Rattle.result_files.specs.declared.fault.FormFault.TheVariants.{NotYet, NoMemory}
use Rattle.result_files.specs.PlainNetlist.{gate_word, head_words, gate_words, register_words, IsChipOf, SaysChip, TextsTellChipsApart}
use Rattle.result_files.specs.Taken.{Begins, Each, IsWireWord, IsGateWord, IsRegisterWord, IsGateBelow, IsRegisterBelow, blank, TakesLines, lines, wires}
use Rattle.result_files.proofs.Lines.{same_lines_from, each_head}
use Rattle.result_files.proofs.Netlists.{kind_place, same_wires, wires_fit, gate_first, gate_one, register_first, register_one}

abbrev pub register_part : List EmuRegister → List Word
register_part registers = lines register_words registers ++ key ENDMODULE ∷ []

abbrev pub gate_part : List EmuGate → List EmuRegister → List Word
gate_part gates registers = lines gate_words gates ++ register_part registers

-- What the parts begin with.

apart : (m n : ℕ) → key m ≡ key n → m ≡ n
apart m n e = ap (λ w. kind_place (w ∷ [])) e

name_apart : (bytes : List ℕ) (n : ℕ) → name bytes ≡ key n → ⊥
name_apart bytes n e = (let kinds = ap (λ w. w.kind) e in cc)

no_wire_word : (nets : ℕ) (gates : List EmuGate) (registers : List EmuRegister) → Each (IsGateBelow nets) gates → Begins IsWireWord (gate_part gates registers) → ⊥
no_wire_word nets [] [] each b = (let wrong = apart ENDMODULE WIRE b in omega arith)
no_wire_word nets [] (r ∷ rs) each b = name_apart (codes "EHOLD") WIRE b
no_wire_word nets (g ∷ gs) rs each b = go g.op (each_head (IsGateBelow nets) g gs each).op (apart (gate_word g.op) WIRE b)
  where
    go : (op : Op) → IsPlainOp op → gate_word op ≡ WIRE → ⊥
    go op (inl e) f = (let wrong : BUF ≡ WIRE = sym (ap gate_word e) ∙ f in omega arith)
    go op (inr e) f = (let wrong : NOT ≡ WIRE = sym (ap gate_word e) ∙ f in omega arith)

no_gate_word : (registers : List EmuRegister) → Begins IsGateWord (register_part registers) → ⊥
no_gate_word [] (inl e) = (let wrong = apart ENDMODULE BUF e in omega arith)
no_gate_word [] (inr e) = (let wrong = apart ENDMODULE NOT e in omega arith)
no_gate_word (r ∷ rs) (inl e) = name_apart (codes "EHOLD") BUF e
no_gate_word (r ∷ rs) (inr e) = name_apart (codes "EHOLD") NOT e

no_register_word : Begins IsRegisterWord (key ENDMODULE ∷ []) → ⊥
no_register_word e = name_apart (codes "EHOLD") ENDMODULE (sym e)

-- Which parts follow.

-- the same gate and the same register, on another chip with as many nets
gate_on : (c d : Chip) → c.nets ≡ d.nets → (gate : EmuGate) → IsPlainGate c gate → IsPlainGate d gate
gate_on c d same gate is = record {
  op = is.op;
  input = is.input;
  inputs = is.inputs;
  input_there = subst (λ n. is.input.place < n) same is.input_there;
  output_there = subst (λ n. gate.output.place < n) same is.output_there;
}

register_on : (c d : Chip) → c.nets ≡ d.nets → (register : EmuRegister) → IsPlainRegister c register → IsPlainRegister d register
register_on c d same register is =
    record { no_d = is.no_d; no_enable = is.no_enable; there = subst (λ n. register.q.place < n) same is.there }

gates_below : (chip : Chip) (nets : ℕ) → chip.nets ≡ nets → IsPlainChip chip → Each (IsGateBelow nets) chip.gates
gates_below chip nets same plain = λ k gate there. gate_on chip (blank nets) same gate (plain.gates k gate there)

registers_below : (chip : Chip) (nets : ℕ) → chip.nets ≡ nets → IsPlainChip chip → Each (IsRegisterBelow nets) chip.registers
registers_below chip nets same plain = λ k register there. register_on chip (blank nets) same register (plain.registers k register there)

head_follows : (chip : Chip) (words r1 : List Word) → IsChipOf words chip → words ≡ head_words ++ r1 → r1 ≡ wires chip.nets ++ gate_part chip.gates chip.registers
head_follows chip words r1 is e = ap (λ ws. drop 3 ws) (sym e ∙ is.words_are)

wires_follow : (chip : Chip) (nets : ℕ) (r1 r2 : List Word) → IsPlainChip chip → r1 ≡ wires chip.nets ++ gate_part chip.gates chip.registers → (r1 ≡ wires nets ++ r2) × (Begins IsWireWord r2 → ⊥) → (chip.nets ≡ nets) × (r2 ≡ gate_part chip.gates chip.registers)
wires_follow chip nets r1 r2 plain due taken =
    let end = no_wire_word chip.nets chip.gates chip.registers (gates_below chip chip.nets refl plain) in
    let same = same_wires chip.nets nets (gate_part chip.gates chip.registers) r2 end taken.1 (sym due ∙ taken.0) in
    (same.0, sym same.1)

gates_follow : (nets : ℕ) → nets < 2 ^ 32 → (chip : Chip) (gates : List EmuGate) (r2 r3 : List Word) → IsPlainChip chip → (chip.nets ≡ nets) × (r2 ≡ gate_part chip.gates chip.registers) → Each (IsGateBelow nets) gates × (r2 ≡ lines gate_words gates ++ r3) × (Begins IsGateWord r3 → ⊥) → (chip.gates ≡ gates) × (r3 ≡ register_part chip.registers)
gates_follow nets fits chip gates r2 r3 plain due taken =
    let same = same_lines_from (IsGateBelow nets) gate_words IsGateWord (gate_first nets) (gate_one nets fits) 0 chip.gates gates (register_part chip.registers) r3
    (gates_below chip nets due.0 plain) taken.0 (no_gate_word chip.registers) taken.2 (sym due.1 ∙ taken.1) in
    (same.0, sym same.1)

registers_follow : (nets : ℕ) → nets < 2 ^ 32 → (chip : Chip) (registers : List EmuRegister) (r3 r4 : List Word) → IsPlainChip chip → chip.nets ≡ nets → r3 ≡ register_part chip.registers → Each (IsRegisterBelow nets) registers × (r3 ≡ lines register_words registers ++ r4) × (Begins IsRegisterWord r4 → ⊥) → (chip.registers ≡ registers) × (r4 ≡ key ENDMODULE ∷ [])
registers_follow nets fits chip registers r3 r4 plain same-nets due taken =
    let same = same_lines_from (IsRegisterBelow nets) register_words IsRegisterWord (register_first nets) (register_one nets fits) 0 chip.registers registers (key ENDMODULE ∷ []) r4
    (registers_below chip nets same-nets plain) taken.0 no_register_word taken.2 (sym due ∙ taken.1) in
    (same.0, sym same.1)

-- What is read of a text, part by part.

pub wires_refused : (words r1 : List Word) → words ≡ head_words ++ r1 → ((nets : ℕ) (rest : List Word) → (Begins IsWireWord rest → ⊥) → r1 ≢ wires nets ++ rest) → (chip : Chip) → IsChipOf words chip → ⊥
wires_refused words r1 head none chip is =
    none chip.nets (gate_part chip.gates chip.registers)
    (no_wire_word chip.nets chip.gates chip.registers (gates_below chip chip.nets refl is.plain))
    (head_follows chip words r1 is head)

module _ (words r1 r2 : List Word) (nets : ℕ) (fits : nets < 2 ^ 32) (head : words ≡ head_words ++ r1)
    (w : (r1 ≡ wires nets ++ r2) × (Begins IsWireWord r2 → ⊥)) where
  nets_said : (chip : Chip) → IsChipOf words chip → (chip.nets ≡ nets) × (r2 ≡ gate_part chip.gates chip.registers)
  nets_said chip is = wires_follow chip nets r1 r2 is.plain (head_follows chip words r1 is head) w

  pub gates_refused : (r3 : List Word) (fault : FormFault) → TakesLines (IsGateBelow nets) gate_words IsGateWord r2 r3 (Err fault) → Answers (IsChipOf words) (Err fault)
  gates_refused r3 NotYet none = λ chip is.
      let said = nets_said chip is in
      none chip.gates (register_part chip.registers) (gates_below chip nets said.0 is.plain) (no_gate_word chip.registers) said.1
  gates_refused r3 NoMemory none = tt

  module _ (r3 : List Word) (gates : List EmuGate) (g : Each (IsGateBelow nets) gates × (r2 ≡ lines gate_words gates ++ r3) × (Begins IsGateWord r3 → ⊥)) where
    gates_said : (chip : Chip) → IsChipOf words chip → (chip.gates ≡ gates) × (r3 ≡ register_part chip.registers)
    gates_said chip is = gates_follow nets fits chip gates r2 r3 is.plain (nets_said chip is) g

    pub registers_refused : (r4 : List Word) (fault : FormFault) → TakesLines (IsRegisterBelow nets) register_words IsRegisterWord r3 r4 (Err fault) → Answers (IsChipOf words) (Err fault)
    registers_refused r4 NotYet none = λ chip is.
        none chip.registers (key ENDMODULE ∷ []) (registers_below chip nets (nets_said chip is).0 is.plain) no_register_word (gates_said chip is).1
    registers_refused r4 NoMemory none = tt

    module _ (r4 : List Word) (registers : List EmuRegister) (r : Each (IsRegisterBelow nets) registers × (r3 ≡ lines register_words registers ++ r4) × (Begins IsRegisterWord r4 → ⊥)) where
      registers_said : (chip : Chip) → IsChipOf words chip → (chip.registers ≡ registers) × (r4 ≡ key ENDMODULE ∷ [])
      registers_said chip is = registers_follow nets fits chip registers r3 r4 is.plain (nets_said chip is).0 (gates_said chip is).1 r

      pub end_refused : (fine : Bool) → fine ≡ false → (IsTrue fine ↔ (r4 ≡ key ENDMODULE ∷ [])) → (chip : Chip) → IsChipOf words chip → ⊥
      end_refused fine is-not tells chip is =
          let wrong : false ≡ true = sym is-not ∙ tells.1 (registers_said chip is).1 in
          cc

      -- the chip that is read
      pub chip_read : r4 ≡ key ENDMODULE ∷ [] → IsChipOf words (record { nets = nets; gates = gates; registers = registers; memories = [] })
      chip_read end =
          let chip : Chip = record { nets = nets; gates = gates; registers = registers; memories = [] } in
          record {
            words_are =
                head
                ∙ ap (λ x. head_words ++ x)
                (w.0 ∙ ap (λ x. wires nets ++ x) (g.1 ∙ ap (λ x. lines gate_words gates ++ x) (r.1 ∙ ap (λ x. lines register_words registers ++ x) end)));
            plain = record {
              gates = λ k gate there. gate_on (blank nets) chip refl gate (g.0 k gate there);
              registers = λ k register there. register_on (blank nets) chip refl register (r.0 k register there);
              memories = refl;
            };
          }

-- words say one chip
pub one_chip : (words : List Word) (first second : Chip) → second.nets < 2 ^ 32 → IsChipOf words first → IsChipOf words second → first ≡ second
one_chip words first second fits a b =
    let r2 = gate_part second.gates second.registers in
    let r1 = wires second.nets ++ r2 in
    let below = gates_below second second.nets refl b.plain in
    let w : (r1 ≡ wires second.nets ++ r2) × (Begins IsWireWord r2 → ⊥) = (refl, no_wire_word second.nets second.gates second.registers below) in
    let g : Each (IsGateBelow second.nets) second.gates × (r2 ≡ lines gate_words second.gates ++ register_part second.registers) × (Begins IsGateWord (register_part second.registers) → ⊥) = (below, refl, no_gate_word second.registers) in
    let r : Each (IsRegisterBelow second.nets) second.registers × (register_part second.registers ≡ lines register_words second.registers ++ key ENDMODULE ∷ []) × (Begins IsRegisterWord (key ENDMODULE ∷ []) → ⊥) = (registers_below second second.nets refl b.plain, refl, no_register_word) in
    let due = wires_follow first second.nets r1 r2 a.plain (head_follows first words r1 a b.words_are) w in
    let gates = gates_follow second.nets fits first second.gates r2 (register_part second.registers) a.plain due g in
    let registers = registers_follow second.nets fits first second.registers (register_part second.registers) (key ENDMODULE ∷ []) a.plain due.0 gates.1 r in
    let memories : first.memories ≡ second.memories = a.plain.memories ∙ sym b.plain.memories in
    λ i. record { nets = due.0 i; gates = gates.0 i; registers = registers.0 i; memories = memories i }

-- there are fewer nets than words
nets_fit : (words : List Word) (chip : Chip) → length words < 2 ^ 32 → IsChipOf words chip → chip.nets < 2 ^ 32
nets_fit words chip few is =
    let tail : drop 3 words ≡ wires chip.nets ++ gate_part chip.gates chip.registers = ap (λ ws. drop 3 ws) is.words_are in
    let sizes : length words - 3 ≡ length (wires chip.nets ++ gate_part chip.gates chip.registers) = sym (length-drop 3 words) ∙ ap length tail in
    let least = wires_fit 0 chip.nets (gate_part chip.gates chip.registers) in
    omega arith

-- a text says one chip
pub one_said : TextsTellChipsApart
one_said source tokens first second few a b =
    let size : length (words_of source tokens) ≡ length tokens = length-map tokens (word_of source) in
    one_chip (words_of source tokens) first second (nets_fit (words_of source tokens) second (omega arith) b.chip_is) a.chip_is b.chip_is

-- where the nets of the chip that is read have not one driver each, the text says none
pub none_driven : (source : List ℕ) (tokens : List Token) (chip : Chip) (fine : Bool) → chip.nets < 2 ^ 32 → IsChipOf (words_of source tokens) chip → fine ≡ false → (IsTrue fine ↔ IsNetlist (chip ∷ [])) → (other : Chip) → SaysChip source tokens other → ⊥
none_driven source tokens chip fine fits is off tells other says =
    let same = one_chip (words_of source tokens) other chip fits says.chip_is is in
    let wrong : false ≡ true = sym off ∙ tells.1 (subst (λ c. IsNetlist (c ∷ [])) same says.driven) in
    cc

-- where no chip has the words, the text says none
pub said_of : (source : List ℕ) (tokens : List Token) (chip : Chip) → SaysChip source tokens chip → (other : Chip) × IsChipOf (words_of source tokens) other
said_of source tokens chip says = (chip, says.chip_is)
