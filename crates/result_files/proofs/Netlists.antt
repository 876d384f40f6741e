-- What the words of netlists say.
use Rattle.std.proofs.Common.{◌≡◌, ◌≢◌, ◌+◌, ◌<◌, ◌≤◌, ◌^◌, ℕ, zero, suc, List, [], ◌∷◌, ◌++◌, length, drop, refl, sym, ap, ◌∙◌, subst, arith, inl, inr}
use Rattle.std.specs.Prelude.{flat_map, codes}
use Rattle.std.specs.List.{range_with_len}
use Rattle.token_words.specs.Word.{Word, key, open_parenthesis, close_parenthesis, comma, semicolon}
use Rattle.verilog_lex.specs.declared.keyword.TheConstants.{BUF, NOT}
use Rattle.verilog_lex.specs.declared.token.TokenKind.TheVariants.{Name, Keyword, Number, Constant, Mark}
use Rattle.id_arena.specs.declared.keys.ChipNetId.{ChipNetId}
use Rattle.design_core.specs.declared.operation.Op.{Op}
use Rattle.design_core.specs.Plain.{IsPlainOp}
use Rattle.emu_machine.specs.declared.netlist.EmuGate.{EmuGate}
use Rattle.emu_machine.specs.declared.netlist.EmuRegister.{EmuRegister}
use Rattle.result_files.specs.PlainNetlist.{numbered, net_word, gate_word, input_words, wire_words, gate_words, register_words}
use Rattle.result_files.specs.Taken.{Begins, IsWireWord, IsGateWord, IsRegisterWord, IsGateBelow, IsRegisterBelow, wires}
use Rattle.result_files.proofs.Numbers.{same_number}

-- Declarations of nets.

abbrev pub wires_from : ℕ → ℕ → List Word
wires_from a n = flat_map wire_words (range_with_len a n)

more_from : (a k : ℕ) (rest : List Word) → wires_from a (suc k) ++ rest ≡ wires_from a k ++ (wire_words (a + k) ++ rest)
more_from a zero rest = let same : a ≡ a + 0 = omega arith in ap (λ n. wire_words n ++ rest) same
more_from a (suc k) rest =
    let same : (a + 1) + k ≡ a + suc k = omega arith in
    ap (λ ws. wire_words a ++ ws) (more_from (a + 1) k rest)
    ∙ ap (λ n. wire_words a ++ (wires_from (a + 1) k ++ (wire_words n ++ rest))) same

-- one declaration more
pub wires_more : (k : ℕ) (before rest after : List Word) → before ≡ wires k ++ rest → rest ≡ wire_words k ++ after → before ≡ wires (k + 1) ++ after
wires_more k before rest after e f =
    let number : 0 + k ≡ k = omega arith in
    let count : suc k ≡ k + 1 = omega arith in
    let step = more_from 0 k after in
    e ∙ ap (λ r. wires k ++ r) f ∙ ap (λ n. wires k ++ (wire_words n ++ after)) (sym number) ∙ sym step ∙ ap (λ n. wires n ++ after) count

same_wires_from : (a m n : ℕ) (x y : List Word) → (Begins IsWireWord x → ⊥) → (Begins IsWireWord y → ⊥) → wires_from a m ++ x ≡ wires_from a n ++ y → (m ≡ n) × (x ≡ y)
same_wires_from a zero zero x y end end-2 e = (refl, e)
same_wires_from a zero (suc n) x y end end-2 e = absurd (end (subst (Begins IsWireWord) (sym e) refl))
same_wires_from a (suc m) zero x y end end-2 e = absurd (end-2 (subst (Begins IsWireWord) e refl))
same_wires_from a (suc m) (suc n) x y end end-2 e =
    let tail : wires_from (a + 1) m ++ x ≡ wires_from (a + 1) n ++ y = ap (λ ws. drop 3 ws) e in
    let rest = same_wires_from (a + 1) m n x y end end-2 tail in
    (ap suc rest.0, rest.1)

-- declarations end where none begins
pub same_wires : (m n : ℕ) (x y : List Word) → (Begins IsWireWord x → ⊥) → (Begins IsWireWord y → ⊥) → wires m ++ x ≡ wires n ++ y → (m ≡ n) × (x ≡ y)
same_wires = same_wires_from 0

next_wire_from : (a m n : ℕ) (x y : List Word) → Begins IsWireWord x → (Begins IsWireWord y → ⊥) → wires_from a m ++ x ≡ wires_from a n ++ y → (rest : List Word) × (x ≡ wire_words (a + m) ++ rest)
next_wire_from a zero zero x y begun end e = absurd (end (subst (Begins IsWireWord) e begun))
next_wire_from a zero (suc n) x y begun end e =
    let same : a ≡ a + 0 = omega arith in
    (wires_from (a + 1) n ++ y, e ∙ ap (λ k. wire_words k ++ (wires_from (a + 1) n ++ y)) same)
next_wire_from a (suc m) zero x y begun end e = absurd (end (subst (Begins IsWireWord) e refl))
next_wire_from a (suc m) (suc n) x y begun end e =
    let tail : wires_from (a + 1) m ++ x ≡ wires_from (a + 1) n ++ y = ap (λ ws. drop 3 ws) e in
    let found = next_wire_from (a + 1) m n x y begun end tail in
    let same : (a + 1) + m ≡ a + suc m = omega arith in
    (found.0, found.1 ∙ ap (λ k. wire_words k ++ found.0) same)

-- where declarations go on and the next one is not there, there are no more
pub no_wires : (k : ℕ) (before rest : List Word) → before ≡ wires k ++ rest → Begins IsWireWord rest → ((more : List Word) → rest ≢ wire_words k ++ more) → (n : ℕ) (after : List Word) → (Begins IsWireWord after → ⊥) → before ≢ wires n ++ after
no_wires k before rest e begun none n after end f =
    let found = next_wire_from 0 k n rest after begun end (sym e ∙ f) in
    let number : 0 + k ≡ k = omega arith in
    none found.0 (found.1 ∙ ap (λ i. wire_words i ++ found.0) number)

-- there are no more nets than words
pub wires_fit : (a n : ℕ) (x : List Word) → n ≤ length (wires_from a n ++ x)
wires_fit a zero x = omega arith
wires_fit a (suc n) x = (let rest = wires_fit (a + 1) n x in omega arith)

-- Gates.

pub gate_first : (nets k : ℕ) (x : EmuGate) (rest : List Word) → IsGateBelow nets x → Begins IsGateWord (gate_words (k, x) ++ rest)
gate_first nets k x rest is = go x.op is.op
  where
    go : (op : Op) → IsPlainOp op → IsGateWord (key (gate_word op))
    go op (inl e) = inl (ap (λ o. key (gate_word o)) e)
    go op (inr e) = inr (ap (λ o. key (gate_word o)) e)

same_op : (o p : Op) → IsPlainOp o → IsPlainOp p → gate_word o ≡ gate_word p → o ≡ p
same_op o p (inl a) (inl b) e = a ∙ sym b
same_op o p (inl a) (inr b) e = (let wrong : BUF ≡ NOT = sym (ap gate_word a) ∙ e ∙ ap gate_word b in absurd (omega arith))
same_op o p (inr a) (inl b) e = (let wrong : NOT ≡ BUF = sym (ap gate_word a) ∙ e ∙ ap gate_word b in absurd (omega arith))
same_op o p (inr a) (inr b) e = a ∙ sym b

same_net : (nets : ℕ) (m n : ChipNetId) (a b : List Word) → nets < 2 ^ 32 → m.place < nets → n.place < nets → net_word m ∷ a ≡ net_word n ∷ b → m ≡ n
same_net nets m n a b fits below below-2 e =
    let places = same_number 110 m.place n.place a b (omega arith) (omega arith) e in
    λ i. record { place = places i }

abbrev pub kind_place : List Word → ℕ
kind_place [] = 0
kind_place (w ∷ ws) = elim w.kind [ Name ↦ 0 | Keyword p ↦ p | Number n ↦ 0 | Constant s v ↦ 0 | Mark b ↦ 0 ]

abbrev line_of : ℕ → Op → ChipNetId → ChipNetId → List Word → List Word
line_of k op output input rest =
    key (gate_word op) ∷ numbered (codes "g") k ∷ open_parenthesis ∷ net_word output ∷ comma ∷ net_word input ∷ close_parenthesis ∷ semicolon ∷ rest

line_is : (k : ℕ) (x : EmuGate) (i : ChipNetId) (rest : List Word) → x.inputs ≡ i ∷ [] → gate_words (k, x) ++ rest ≡ line_of k x.op x.output i rest
line_is k x i rest e =
    ap (λ is. key (gate_word x.op) ∷ numbered (codes "g") k ∷ open_parenthesis ∷ net_word x.output ∷ ((input_words is ++ close_parenthesis ∷ semicolon ∷ []) ++ rest)) e

pub gate_one : (nets : ℕ) → nets < 2 ^ 32 → (k : ℕ) (x y : EmuGate) (a b : List Word) → IsGateBelow nets x → IsGateBelow nets y → gate_words (k, x) ++ a ≡ gate_words (k, y) ++ b → (x ≡ y) × (a ≡ b)
gate_one nets fits k x y a b is is-2 e =
    let same : line_of k x.op x.output is.input a ≡ line_of k y.op y.output is-2.input b =
    sym (line_is k x is.input a is.inputs) ∙ e ∙ line_is k y is-2.input b is-2.inputs in
    let ops = same_op x.op y.op is.op is-2.op (ap kind_place same) in
    let outputs = same_net nets x.output y.output _ _ fits is.output_there is-2.output_there (ap (λ ws. drop 3 ws) same) in
    let inputs = same_net nets is.input is-2.input _ _ fits is.input_there is-2.input_there (ap (λ ws. drop 5 ws) same) in
    let lists : x.inputs ≡ y.inputs = is.inputs ∙ ap (λ i. i ∷ []) inputs ∙ sym is-2.inputs in (
      λ i. record { op = ops i; output = outputs i; inputs = lists i },
      ap (λ ws. drop 8 ws) same,
    )

-- Registers.

pub register_first : (nets k : ℕ) (x : EmuRegister) (rest : List Word) → IsRegisterBelow nets x → Begins IsRegisterWord (register_words (k, x) ++ rest)
register_first nets k x rest is = refl

pub register_one : (nets : ℕ) → nets < 2 ^ 32 → (k : ℕ) (x y : EmuRegister) (a b : List Word) → IsRegisterBelow nets x → IsRegisterBelow nets y → register_words (k, x) ++ a ≡ register_words (k, y) ++ b → (x ≡ y) × (a ≡ b)
register_one nets fits k x y a b is is-2 e =
    let nets-are = same_net nets x.q y.q _ _ fits is.there is-2.there (ap (λ ws. drop 3 ws) e) in
    let ds : x.d ≡ y.d = is.no_d ∙ sym is-2.no_d in
    let enables : x.enable ≡ y.enable = is.no_enable ∙ sym is-2.no_enable in (
      λ i. record { q = nets-are i; d = ds i; enable = enables i },
      ap (λ ws. drop 6 ws) e,
    )
