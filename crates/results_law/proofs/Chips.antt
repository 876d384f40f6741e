-- The modules of printed netlists.
use Rattle.std.proofs.Common.{◌≡◌, ◌+◌, ◌<◌, ◌≤◌, ◌^◌, ℕ, zero, suc, IsTrue, Some, List, [], ◌∷◌, ◌++◌, length, slice_get, refl, sym, ap, ◌∙◌, subst, append_assoc, append-nil, arith}
use Rattle.std.specs.Prelude.{codes, flat_map, nat_lt}
use Rattle.std.specs.List.{enumerate_from, range_with_len}
use Rattle.std.proofs.lemmas.Bool.Decides.{nat_tests}
use Rattle.verilog_lex.specs.declared.keyword.TheConstants.{ENDMODULE}
use Rattle.token_words.specs.Word.{Word, key}
use Rattle.id_arena.specs.declared.keys.ChipNetId.{ChipNetId}
use Rattle.design_core.specs.declared.operation.Op.{Op}
use Rattle.design_core.specs.declared.operation.Op.TheVariants.{And, Nand, Or, Nor, Xor, Xnor, Buf, Not, Table}
use Rattle.design_core.specs.Design.{inputs_fit}
use Rattle.design_core.specs.Limits.{most_inputs}
use Rattle.emu_machine.specs.declared.netlist.Chip.{Chip}
use Rattle.emu_machine.specs.declared.netlist.EmuGate.{EmuGate}
use Rattle.emu_machine.specs.declared.netlist.EmuMemory.{EmuMemory}
use Rattle.emu_machine.specs.declared.netlist.EmuRegister.{EmuRegister}
use Rattle.emu_machine.specs.Building.{AreChips, AreNetsOf, IsChip, IsGateOf, IsMemoryOf, IsRegisterOf}
use Rattle.netlist_writer.specs.NetlistText as text
use Rattle.netlist_writer.specs.NetlistText.{memory_pins}
use Rattle.netlist_reader.specs.Netlist.{Each, body_words, chip_words, gate_pins, gate_words, head_words, lines, memory_words, netlist_words, pins_of_register, register_words, wire_words, wires}
use Rattle.netlist_reader.proofs.ItemLines.{more_below, register_below}
use Rattle.netlist_reader.proofs.MemoryLines.{memory_below}
use Rattle.netlist_reader.proofs.Shapes.{rows_fit}
use Rattle.result_files.specs.ThreeTexts.{IsNetlistText}
use Rattle.results_law.specs.ReadBack.{NetlistFits, NetlistsReadBack}
use Rattle.results_law.proofs.Lexemes.{Say, say_end}
use Rattle.results_law.proofs.Netlists.{IsLine, Small, end_line, gate_form_line, head_line, memory_form_line, register_form_line, wire_line}

-- Items, one line each.

module _ {A : Type 0} (line_text : ℕ × A → List ℕ) (line_words : ℕ × A → List Word) (Is : A → Type 0)
    (one : (j : ℕ) (x : A) (rest : List ℕ) (words : List Word) → j < 2 ^ 64 → Is x → IsLine rest words → IsLine (line_text (j, x) ++ rest) (line_words (j, x) ++ words)) where
  each_line : (k : ℕ) (xs : List A) (rest : List ℕ) (words : List Word) → k + length xs < 2 ^ 64 → ((j : ℕ) (x : A) → slice_get xs j ≡ Some x → Is x) → IsLine rest words → IsLine (flat_map line_text (enumerate_from k xs) ++ rest) (flat_map line_words (enumerate_from k xs) ++ words)
  each_line k [] rest words few each line = line
  each_line k (x ∷ xs) rest words few each line =
      let next = each_line (k + 1) xs rest words (omega arith) (λ j y e. each (suc j) y e) line in
      let head = one k x (flat_map line_text (enumerate_from (k + 1) xs) ++ rest) (flat_map line_words (enumerate_from (k + 1) xs) ++ words) (omega arith) (each 0 x refl) next in
      subst (λ t. IsLine t (flat_map line_words (enumerate_from k (x ∷ xs)) ++ words)) (sym (append_assoc (line_text (k, x)) (flat_map line_text (enumerate_from (k + 1) xs)) rest))
      (subst (λ ws. IsLine (line_text (k, x) ++ (flat_map line_text (enumerate_from (k + 1) xs) ++ rest)) ws) (sym (append_assoc (line_words (k, x)) (flat_map line_words (enumerate_from (k + 1) xs)) words)) head)

each_wire : (k n : ℕ) (rest : List ℕ) (words : List Word) → k + n < 2 ^ 64 → IsLine rest words → IsLine (flat_map text.wire_text (range_with_len k n) ++ rest) (flat_map wire_words (range_with_len k n) ++ words)
each_wire k zero rest words few line = line
each_wire k (suc n) rest words few line =
    let next = each_wire (k + 1) n rest words (omega arith) line in
    let head = wire_line k (flat_map text.wire_text (range_with_len (k + 1) n) ++ rest) (flat_map wire_words (range_with_len (k + 1) n) ++ words) (omega arith) next in
    subst (λ t. IsLine t (flat_map wire_words (range_with_len k (suc n)) ++ words)) (sym (append_assoc (text.wire_text k) (flat_map text.wire_text (range_with_len (k + 1) n)) rest))
    (subst (λ ws. IsLine (text.wire_text k ++ (flat_map text.wire_text (range_with_len (k + 1) n) ++ rest)) ws) (sym (append_assoc (wire_words k) (flat_map wire_words (range_with_len (k + 1) n)) words)) head)

small_of : (nets : ℕ) (ns : List ChipNetId) → nets < 2 ^ 32 → AreNetsOf nets ns → Small ns
small_of nets ns fits all k n e = (let below = all k n e in omega arith)

few_inputs : (op : Op) → most_inputs op < 2 ^ 64
few_inputs And = omega arith
few_inputs Nand = omega arith
few_inputs Or = omega arith
few_inputs Nor = omega arith
few_inputs Xor = omega arith
few_inputs Xnor = omega arith
few_inputs Buf = omega arith
few_inputs Not = omega arith
few_inputs (Table t) = omega arith

small_table : (op : Op) (n t : ℕ) → IsTrue (inputs_fit op n) → n ≤ most_inputs op → op ≡ Table t → t < 2 ^ 64
small_table op n t fit few e =
    let own : IsTrue (nat_lt t (2 ^ (2 ^ n))) = subst (λ o. IsTrue (inputs_fit o n)) e fit in
    let rows : t < 2 ^ (2 ^ n) = grind (arith, nat_tests) in
    rows_fit n t (subst (λ o. n ≤ most_inputs o) e few) rows

module _ (nets : ℕ) (fits : nets < 2 ^ 32) where
  gate_line : (j : ℕ) (gate : EmuGate) (rest : List ℕ) (words : List Word) → j < 2 ^ 64 → IsGateOf nets gate → IsLine rest words → IsLine (text.gate_text (j, gate) ++ rest) (gate_words (j, gate) ++ words)
  gate_line j gate rest words few is line =
      let bound = few_inputs gate.op in
      let inputs = is.few in
      gate_form_line 103 j (gate_pins gate) rest words (refl, refl, refl, refl) refl few (small_of nets (gate_pins gate) fits (more_below nets gate.output gate.inputs is.output is.inputs)) line
      gate.op (length gate.inputs) (omega arith) (λ t e. small_table gate.op (length gate.inputs) t is.form is.few e)

  register_line : (j : ℕ) (register : EmuRegister) (rest : List ℕ) (words : List Word) → j < 2 ^ 64 → IsRegisterOf nets register → IsLine rest words → IsLine (text.register_text (j, register) ++ rest) (register_words (j, register) ++ words)
  register_line j register rest words few is line =
      register_form_line 114 j (pins_of_register register) rest words (refl, refl, refl, refl) refl few (small_of nets (pins_of_register register) fits (register_below nets register is)) line register.d register.enable

  memory_line : (j : ℕ) (memory : EmuMemory) (rest : List ℕ) (words : List Word) → j < 2 ^ 64 → IsMemoryOf nets memory → IsLine rest words → IsLine (text.memory_text (j, memory) ++ rest) (memory_words (j, memory) ++ words)
  memory_line j memory rest words few is line =
      let a = is.address_bits in
      let w = is.width in
      let p = is.ports in
      memory_form_line 109 j (memory_pins memory) rest words (refl, refl, refl, refl) refl few (small_of nets (memory_pins memory) fits (memory_below nets memory is)) line
      memory (omega arith) (omega arith) (omega arith) (omega arith)

-- The module of a chip.

chip_line : (c : ℕ) (chip : Chip) (rest : List ℕ) (words : List Word) → c < 2 ^ 64 → IsChip chip × (chip.nets < 2 ^ 32) → IsLine rest words → IsLine (text.chip_text (c, chip) ++ rest) (chip_words (c, chip) ++ words)
chip_line c chip rest words few is line =
    let a = is.0.few_gates in
    let b = is.0.few_registers in
    let d = is.0.few_memories in
    let n = is.1 in
    let l5 = end_line rest words line in
    let l4 = each_line text.memory_text memory_words (IsMemoryOf chip.nets) (memory_line chip.nets is.1) 0 chip.memories (codes "endmodule\n" ++ rest) (key ENDMODULE ∷ words) (omega arith) is.0.memories l5 in
    let l3 = each_line text.register_text register_words (IsRegisterOf chip.nets) (register_line chip.nets is.1) 0 chip.registers _ _ (omega arith) is.0.registers l4 in
    let l2 = each_line text.gate_text gate_words (IsGateOf chip.nets) (gate_line chip.nets is.1) 0 chip.gates _ _ (omega arith) is.0.gates l3 in
    let l1 = each_wire 0 chip.nets _ _ (omega arith) l2 in
    let l0 = head_line c _ _ few l1 in
    subst (λ t. IsLine t (chip_words (c, chip) ++ words))
    (sym (texts (text.head_text c) (flat_map text.wire_text (range_with_len 0 chip.nets)) (text.lines text.gate_text chip.gates) (text.lines text.register_text chip.registers) (text.lines text.memory_text chip.memories) (codes "endmodule\n")))
    (subst (IsLine _) (sym (parts (head_words c) (wires chip.nets) (lines gate_words chip.gates) (lines register_words chip.registers) (lines memory_words chip.memories))) l0)
  where
    texts : (h w g r m e : List ℕ) → (h ++ w ++ g ++ r ++ m ++ e) ++ rest ≡ h ++ (w ++ (g ++ (r ++ (m ++ (e ++ rest)))))
    texts h w g r m e = simp append_assoc refl

    parts : (h w g r m : List Word) → (h ++ (w ++ (g ++ (r ++ (m ++ key ENDMODULE ∷ []))))) ++ words ≡ h ++ (w ++ (g ++ (r ++ (m ++ key ENDMODULE ∷ words))))
    parts h w g r m = simp append_assoc refl

-- The whole netlist.

pub netlists_back : NetlistsReadBack
netlists_back chips fits =
    let few = fits.formed.few in
    let whole = each_line text.chip_text chip_words (λ (chip : Chip). IsChip chip × (chip.nets < 2 ^ 32)) chip_line 0 chips [] [] (omega arith) (λ c chip e. (fits.formed.each c chip e, fits.nets c chip e)) (record { says = say_end; clean = refl }) in
    let said = whole.says (text.netlist_text chips) [] (sym (append-nil (text.netlist_text chips))) in
    record {
      tokens = said.0;
      text = said.1;
      says = record {
        words_are = said.2 ∙ append-nil (netlist_words chips);
        forms = λ c chip e.
            let is = fits.formed.each c chip e in
            record { few = fits.nets c chip e; gates = is.gates; registers = is.registers; memories = is.memories };
      };
    }
