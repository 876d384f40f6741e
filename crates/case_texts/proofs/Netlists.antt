-- That each net n0 of a netlist stands behind a declaration in its module.
use Rattle.std.proofs.Common.{ℕ, zero, suc, ◌≡◌, ◌<◌, ◌+◌, ◌++◌, ◌⊎◌, List, [], ◌∷◌, length, slice_get, Some, flat_map, refl, sym, ◌∙◌, ap, subst, inl, inr, arith}
use Rattle.std.specs.Prelude.{codes, decimal}
use Rattle.std.specs.List.{range_with_len, enumerate_from}
use Rattle.std.proofs.lemmas.List.{append_assoc}
use Rattle.token_words.specs.Word.{Word, key, mark, name, close_parenthesis, comma, semicolon}
use Rattle.verilog_lex.specs.declared.keyword.TheConstants.{AND, BUF, ENDMODULE, MODULE, NAND, NOR, NOT, OR, WIRE, XNOR, XOR}
use Rattle.verilog_lex.specs.declared.token.TokenKind.TheVariants.{Name, Keyword, Mark}
use Rattle.id_arena.specs.declared.keys.ChipNetId.{ChipNetId}
use Rattle.design_core.specs.declared.operation.Op.{Op}
use Rattle.design_core.specs.declared.operation.Op.TheVariants.{And, Nand, Or, Nor, Xor, Xnor, Buf, Not, Table}
use Rattle.emu_machine.specs.declared.netlist.Chip.{Chip}
use Rattle.emu_machine.specs.declared.netlist.EmuGate.{EmuGate}
use Rattle.emu_machine.specs.declared.netlist.EmuMemory.{EmuMemory}
use Rattle.emu_machine.specs.declared.netlist.EmuRead.{EmuRead}
use Rattle.emu_machine.specs.declared.netlist.EmuRegister.{EmuRegister}
use Rattle.emu_machine.specs.declared.netlist.EmuWrite.{EmuWrite}
use Rattle.emu_machine.specs.Building.{IsGateOf, IsMemoryOf, IsReadOf, IsRegisterOf, IsWriteOf}
use Rattle.netlist_writer.specs.NetlistText.{memory_form, memory_pins, op_form, read_pins, register_form, write_pins}
use Rattle.netlist_reader.specs.Faults.{HasWire, NamesDeclared, first_net}
use Rattle.netlist_reader.specs.Netlist.{Each, HasForms, SaysChips, body_words, chip_words, closed_words, gate_pins, gate_words, head_words, lines, memory_words, more_words, net_word, numbered, op_word, pin_words, pins_of_register, register_words, wire_words, wires}

-- ## Lists of words

-- the condition holds of each
abbrev AreAll : {A : Type 0} → (A → Type 0) → List A → Type 0
AreAll Is [] = Unit {0}
AreAll Is (x ∷ xs) = Is x × AreAll Is xs

all_append : {A : Type 0} (Is : A → Type 0) (xs ys : List A) → AreAll Is xs → AreAll Is ys → AreAll Is (xs ++ ys)
all_append Is [] ys all also = also
all_append Is (x ∷ xs) ys all also = (all.0, all_append Is xs ys all.1 also)

all_flat : {X A : Type 0} (Is : A → Type 0) (f : X → List A) (xs : List X) → ((x : X) → AreAll Is (f x)) → AreAll Is (flat_map f xs)
all_flat Is f [] each = tt
all_flat Is f (x ∷ xs) each = all_append Is (f x) (flat_map f xs) (each x) (all_flat Is f xs each)

all_found : {A : Type 0} (Is : A → Type 0) (xs front behind : List A) (a : A) → AreAll Is xs → xs ≡ front ++ a ∷ behind → Is a
all_found Is [] [] behind a all e = absurd (cc)
all_found Is [] (y ∷ front) behind a all e = absurd (cc)
all_found Is (x ∷ xs) [] behind a all e = let same : x ≡ a = cc in subst Is same all.0
all_found Is (x ∷ xs) (y ∷ front) behind a all e = let rest : xs ≡ front ++ a ∷ behind = cc in all_found Is xs front behind a all.1 rest

-- a word of two lists, one behind the other, stands in the first or in the second
in_either : (ws vs front behind : List Word) (w : Word) → ws ++ vs ≡ front ++ w ∷ behind
    → ((c : List Word) × (ws ≡ front ++ w ∷ c)) ⊎ ((c : List Word) × (front ≡ ws ++ c) × (vs ≡ c ++ w ∷ behind))
in_either [] vs front behind w e = inr (front, refl, e)
in_either (x ∷ ws) vs [] behind w e = let same : x ≡ w = cc in inl (ws, ap (λ y. y ∷ ws) same)
in_either (x ∷ ws) vs (y ∷ front) behind w e =
    let first : x ≡ y = cc in
    let rest : ws ++ vs ≡ front ++ w ∷ behind = cc in
    elim (in_either ws vs front behind w rest) [
      | inl here ↦ inl (here.0, ap (λ z. z ∷ ws) first ∙ ap (λ zs. y ∷ zs) here.1)
      | inr there ↦ inr (there.0, ap (λ zs. y ∷ zs) there.1 ∙ ap (λ z. z ∷ (ws ++ there.0)) (sym first), there.2)
    ]

-- ## No word of a module's body begins a module

abbrev IsFree : Word → Type 0
IsFree w = w ≡ key MODULE → ⊥

free_name : (bytes : List ℕ) → IsFree (name bytes)
free_name bytes e = let kinds : Name ≡ Keyword MODULE = ap (λ (w : Word). w.kind) e in cc

free_mark : (byte : ℕ) → IsFree (mark byte)
free_mark byte e = let kinds : Mark byte ≡ Keyword MODULE = ap (λ (w : Word). w.kind) e in cc

free_key : (p : ℕ) → (p ≡ MODULE → ⊥) → IsFree (key p)
free_key p other e = let kinds : Keyword p ≡ Keyword MODULE = ap (λ (w : Word). w.kind) e in other cc

free_op : (op : Op) (inputs : ℕ) → IsFree (op_word op inputs)
free_op And inputs = free_key AND (λ e. omega (arith, e))
free_op Nand inputs = free_key NAND (λ e. omega (arith, e))
free_op Or inputs = free_key OR (λ e. omega (arith, e))
free_op Nor inputs = free_key NOR (λ e. omega (arith, e))
free_op Xor inputs = free_key XOR (λ e. omega (arith, e))
free_op Xnor inputs = free_key XNOR (λ e. omega (arith, e))
free_op Buf inputs = free_key BUF (λ e. omega (arith, e))
free_op Not inputs = free_key NOT (λ e. omega (arith, e))
free_op (Table table) inputs = free_name (op_form (Table table) inputs)

free_more : (nets : List ChipNetId) → AreAll IsFree (more_words nets)
free_more nets = all_flat IsFree (λ n. comma ∷ net_word n ∷ []) nets (λ n. (free_mark 44, ((λ e. let kinds : Name ≡ Keyword MODULE = ap (λ (w : Word). w.kind) e in cc), tt)))

free_closed : (nets : List ChipNetId) → AreAll IsFree (closed_words nets)
free_closed [] = (free_mark 41, tt)
free_closed (n ∷ nets) = ((λ e. let kinds : Name ≡ Keyword MODULE = ap (λ (w : Word). w.kind) e in cc), all_append IsFree (more_words nets) (close_parenthesis ∷ []) (free_more nets) (free_mark 41, tt))

free_pins : (stem : List ℕ) (k : ℕ) (nets : List ChipNetId) → AreAll IsFree (pin_words stem k nets)
free_pins stem k nets =
    (free_name (stem ++ decimal k), (free_mark 40, all_append IsFree (closed_words nets) (semicolon ∷ []) (free_closed nets) (free_mark 59, tt)))

free_gate : (of : ℕ × EmuGate) → AreAll IsFree (gate_words of)
free_gate (k, gate) = (free_op gate.op (length gate.inputs), free_pins (codes "g") k (gate_pins gate))

free_register : (of : ℕ × EmuRegister) → AreAll IsFree (register_words of)
free_register (k, register) = (free_name (register_form register.d register.enable), free_pins (codes "r") k (pins_of_register register))

free_memory : (of : ℕ × EmuMemory) → AreAll IsFree (memory_words of)
free_memory (k, memory) = (free_name (memory_form memory), free_pins (codes "m") k (memory_pins memory))

free_wire : (k : ℕ) → AreAll IsFree (wire_words k)
free_wire k = (free_key WIRE (λ e. omega (arith, e)), (free_name (codes "n" ++ decimal k), (free_mark 59, tt)))

-- the lines of a body, without the declarations
abbrev rest_words : Chip → List Word
rest_words chip =
    lines gate_words chip.gates ++ (lines register_words chip.registers ++ (lines memory_words chip.memories ++ key ENDMODULE ∷ []))

free_rest : (chip : Chip) → AreAll IsFree (rest_words chip)
free_rest chip =
    all_append IsFree (lines gate_words chip.gates) (lines register_words chip.registers ++ (lines memory_words chip.memories ++ key ENDMODULE ∷ []))
    (all_flat IsFree gate_words (enumerate_from 0 chip.gates) free_gate)
    (all_append IsFree (lines register_words chip.registers) (lines memory_words chip.memories ++ key ENDMODULE ∷ [])
    (all_flat IsFree register_words (enumerate_from 0 chip.registers) free_register)
    (all_append IsFree (lines memory_words chip.memories) (key ENDMODULE ∷ [])
    (all_flat IsFree memory_words (enumerate_from 0 chip.memories) free_memory)
    (free_key ENDMODULE (λ e. omega (arith, e)), tt)))

free_body : (chip : Chip) → AreAll IsFree (body_words chip)
free_body chip = all_append IsFree (wires chip.nets) (rest_words chip) (all_flat IsFree wire_words (range_with_len 0 chip.nets) free_wire) (free_rest chip)

-- ## No word of a module without nets is n0

abbrev IsOther : Word → Type 0
IsOther w = w ≡ first_net → ⊥

first_byte : List ℕ → ℕ
first_byte [] = 0
first_byte (x ∷ xs) = x

other_name : (byte : ℕ) (bytes : List ℕ) → (byte ≡ 110 → ⊥) → IsOther (name (byte ∷ bytes))
unfolding first_byte
other_name byte bytes apart e = apart (ap (λ (w : Word). first_byte w.name) e)

other_mark : (byte : ℕ) → IsOther (mark byte)
other_mark byte e = let kinds : Mark byte ≡ Name = ap (λ (w : Word). w.kind) e in cc

other_key : (p : ℕ) → IsOther (key p)
other_key p e = let kinds : Keyword p ≡ Name = ap (λ (w : Word). w.kind) e in cc

other_head : (c : ℕ) → AreAll IsOther (head_words c)
other_head c = (other_key MODULE, (other_name 99 (104 ∷ 105 ∷ 112 ∷ decimal c) (λ e. omega (arith, e)), (other_mark 59, tt)))

no_writes : (memory : EmuMemory) (writes : List EmuWrite) → ((k : ℕ) (port : EmuWrite) → slice_get writes k ≡ Some port → IsWriteOf 0 memory port) → flat_map write_pins writes ≡ []
no_writes memory [] each = refl
no_writes memory (w ∷ writes) each = absurd (let is = each 0 w refl in let below = is.enable in omega (arith, below))

no_bits : (memory : EmuMemory) (port : EmuRead) (bits : List ChipNetId) → bits ≡ port.bits → IsReadOf 0 memory port → 0 < memory.width → ⊥
no_bits memory port [] same is wide = let size = is.width in let none : 0 ≡ length port.bits = ap length same in omega (arith, size, none, wide)
no_bits memory port (n ∷ bits) same is wide =
    let below : n.place < 0 = is.bits 0 n (subst (λ ns. slice_get ns 0 ≡ Some n) same refl) in
    omega (arith, below)

no_reads : (memory : EmuMemory) (reads : List EmuRead) → 0 < memory.width → ((k : ℕ) (port : EmuRead) → slice_get reads k ≡ Some port → IsReadOf 0 memory port) → flat_map read_pins reads ≡ []
no_reads memory [] wide each = refl
no_reads memory (r ∷ reads) wide each = absurd (no_bits memory r r.bits refl (each 0 r refl) wide)

no_pins : (memory : EmuMemory) → IsMemoryOf 0 memory → memory_pins memory ≡ []
no_pins memory is =
    ap (λ pins. pins ++ flat_map read_pins memory.reads) (no_writes memory memory.writes is.writes) ∙ no_reads memory memory.reads is.some_width is.reads

other_memory : (k : ℕ) (memory : EmuMemory) → IsMemoryOf 0 memory → AreAll IsOther (memory_words (k, memory))
unfolding first_byte
other_memory k memory is =
    subst (λ pins. AreAll IsOther (name (memory_form memory) ∷ pin_words (codes "m") k pins)) (sym (no_pins memory is))
    ((λ e. let byte : 69 ≡ 110 = ap (λ (w : Word). first_byte w.name) e in omega (arith, byte)), (other_name 109 (decimal k) (λ e. omega (arith, e)), (other_mark 40, (other_mark 41, (other_mark 59, tt)))))

other_memories : (k : ℕ) (memories : List EmuMemory) → Each (IsMemoryOf 0) memories → AreAll IsOther (flat_map memory_words (enumerate_from k memories))
other_memories k [] each = tt
other_memories k (m ∷ memories) each =
    all_append IsOther (memory_words (k, m)) (flat_map memory_words (enumerate_from (k + 1) memories)) (other_memory k m (each 0 m refl))
    (other_memories (k + 1) memories (λ j x e. each (suc j) x e))

other_gates : (gates : List EmuGate) → Each (IsGateOf 0) gates → AreAll IsOther (lines gate_words gates)
other_gates [] each = tt
other_gates (g ∷ gates) each = absurd (let is = each 0 g refl in let below = is.output in omega (arith, below))

other_registers : (registers : List EmuRegister) → Each (IsRegisterOf 0) registers → AreAll IsOther (lines register_words registers)
other_registers [] each = tt
other_registers (r ∷ registers) each = absurd (let is = each 0 r refl in let below = is.q in omega (arith, below))

other_rest : (chip : Chip) → HasForms chip → chip.nets ≡ 0 → AreAll IsOther (rest_words chip)
other_rest chip is none =
    all_append IsOther (lines gate_words chip.gates) (lines register_words chip.registers ++ (lines memory_words chip.memories ++ key ENDMODULE ∷ []))
    (other_gates chip.gates (subst (λ n. Each (IsGateOf n) chip.gates) none is.gates))
    (all_append IsOther (lines register_words chip.registers) (lines memory_words chip.memories ++ key ENDMODULE ∷ [])
    (other_registers chip.registers (subst (λ n. Each (IsRegisterOf n) chip.registers) none is.registers))
    (all_append IsOther (lines memory_words chip.memories) (key ENDMODULE ∷ [])
    (other_memories 0 chip.memories (subst (λ n. Each (IsMemoryOf n) chip.memories) none is.memories))
    (other_key ENDMODULE, tt)))

-- ## Each n0 of a netlist

-- behind the first declaration of a module, and before it ends, there is a declaration in it
wire_before : (pre : List Word) (c : ℕ) (front : List Word) → AreAll IsFree front → HasWire (pre ++ (head_words c ++ key WIRE ∷ front))
wire_before pre c front free = record {
  before = pre ++ head_words c;
  behind = front;
  words_are = sym (append_assoc pre (head_words c) (key WIRE ∷ front));
  same_module = λ a b e. all_found IsFree front a b (key MODULE) free e refl;
}

-- what stands before a word of free words is free
free_front : (xs front behind : List Word) → AreAll IsFree xs → xs ≡ front ++ behind → AreAll IsFree front
free_front xs [] behind all e = tt
free_front [] (y ∷ front) behind all e = absurd (cc)
free_front (x ∷ xs) (y ∷ front) behind all e =
    let same : x ≡ y = cc in
    let rest : xs ≡ front ++ behind = cc in
    (subst IsFree same all.0, free_front xs front behind all.1 rest)

module _ (pre : List Word) (c : ℕ) (chip : Chip) (is : HasForms chip) where
  -- in the body of a chip
  in_body : (front behind : List Word) → body_words chip ≡ front ++ first_net ∷ behind → HasWire (pre ++ (head_words c ++ front))
  in_body front behind e = go chip.nets refl front e
    where
      go : (n : ℕ) → chip.nets ≡ n → (front : List Word) → body_words chip ≡ front ++ first_net ∷ behind → HasWire (pre ++ (head_words c ++ front))
      go zero none front e =
          let bare : rest_words chip ≡ front ++ first_net ∷ behind = sym (ap (λ n. wires n ++ rest_words chip) none) ∙ e in
          absurd (all_found IsOther (rest_words chip) front behind first_net (other_rest chip is none) bare refl)
      go (suc n) some front e =
          let tail : List Word = numbered (codes "n") 0 ∷ semicolon ∷ (flat_map wire_words (range_with_len 1 n) ++ rest_words chip) in
          let begins : key WIRE ∷ tail ≡ front ++ first_net ∷ behind = sym (ap (λ n. wires n ++ rest_words chip) some) ∙ e in
          cut front tail (free_front (key WIRE ∷ tail) (key WIRE ∷ tail) [] (subst (AreAll IsFree) (ap (λ n. wires n ++ rest_words chip) some) (free_body chip)) (sym (end (key WIRE ∷ tail)))) begins
        where
          end : (xs : List Word) → xs ++ [] ≡ xs
          end [] = refl
          end (x ∷ xs) = ap (λ ys. x ∷ ys) (end xs)

          cut : (front tail : List Word) → AreAll IsFree (key WIRE ∷ tail) → key WIRE ∷ tail ≡ front ++ first_net ∷ behind → HasWire (pre ++ (head_words c ++ front))
          cut [] tail free e = absurd (let same : key WIRE ≡ first_net = cc in other_key WIRE same)
          cut (x ∷ front) tail free e =
              let same : key WIRE ≡ x = cc in
              let rest : tail ≡ front ++ first_net ∷ behind = cc in
              subst (λ w. HasWire (pre ++ (head_words c ++ w ∷ front))) same (wire_before pre c front (free_front tail front (first_net ∷ behind) free.1 rest))

  -- in the module of a chip
  in_chip : (front behind : List Word) → chip_words (c, chip) ≡ front ++ first_net ∷ behind → HasWire (pre ++ front)
  in_chip front behind e =
      elim (in_either (head_words c) (body_words chip) front behind first_net e) [
        | inl here ↦ absurd (all_found IsOther (head_words c) front here.0 first_net (other_head c) here.1 refl)
        | inr there ↦ subst (λ ws. HasWire (pre ++ ws)) (sym there.1) (in_body there.0 behind there.2)
      ]

  names_chip : NamesDeclared pre → NamesDeclared (pre ++ chip_words (c, chip))
  names_chip names front behind e =
      elim (in_either pre (chip_words (c, chip)) front behind first_net e) [
        | inl here ↦ names front here.0 here.1
        | inr there ↦ subst HasWire (sym there.1) (in_chip there.0 behind there.2)
      ]

names_chips : (pre : List Word) (c : ℕ) (chips : List Chip) → Each HasForms chips → NamesDeclared pre → NamesDeclared (pre ++ flat_map chip_words (enumerate_from c chips))
names_chips pre c [] each names = subst NamesDeclared (sym (end pre)) names
  where
    end : (xs : List Word) → xs ++ [] ≡ xs
    end [] = refl
    end (x ∷ xs) = ap (λ ys. x ∷ ys) (end xs)
names_chips pre c (chip ∷ chips) each names =
    subst NamesDeclared (append_assoc pre (chip_words (c, chip)) (flat_map chip_words (enumerate_from (c + 1) chips)))
    (names_chips (pre ++ chip_words (c, chip)) (c + 1) chips (λ k x e. each (suc k) x e) (names_chip pre c chip (each 0 chip refl) names))

-- in a netlist each net n0 stands behind a declaration in its module
pub says_declared : (words : List Word) (chips : List Chip) → SaysChips words chips → NamesDeclared words
says_declared words chips says = subst NamesDeclared (sym says.words_are) (names_chips [] 0 chips says.forms none)
  where
    none : NamesDeclared []
    none [] behind e = absurd (cc)
    none (x ∷ front) behind e = absurd (cc)
