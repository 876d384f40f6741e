-- The forms of gates and of memories, by their first word.
use Rattle.std.proofs.Common.{◌≡◌, ◌≢◌, ◌<◌, ◌≤◌, ◌^◌, ℕ, zero, suc, IsTrue, Option, Some, None, List, [], ◌∷◌, ◌++◌, length, refl, sym, ap, ◌∙◌, subst, arith}
use Rattle.std.specs.Prelude.{codes, decimal, ◌==◌, if◌then◌else◌, nat_lt}
use Rattle.std.proofs.lemmas.Bool.Decides.{nat_tests}
use Rattle.std.proofs.lemmas.List.{append_assoc, append_cancel_left}
use Rattle.verilog_lex.specs.declared.keyword.TheConstants.{AND, BUF, NAND, NOR, NOT, OR, XNOR, XOR}
use Rattle.verilog_lex.specs.declared.token.TokenKind.TheVariants.{Name, Keyword, Number, Constant, Mark}
use Rattle.token_words.specs.Word.{Word, key, name}
use Rattle.design_core.specs.declared.operation.Op.{Op}
use Rattle.design_core.specs.declared.operation.Op.TheVariants.{And, Nand, Or, Nor, Xor, Xnor, Buf, Not, Table}
use Rattle.design_core.specs.Design.{inputs_fit}
use Rattle.design_core.specs.Limits.{most_inputs}
use Rattle.netlist_writer.specs.NetlistText.{hex, op_form}
use Rattle.netlist_reader.specs.Netlist.{op_word}
use Rattle.netlist_reader.specs.Forms.{IsGateFirst, IsShapeOf, ShapeIs, ShowsGate, TellsKey, TellsName}
use Rattle.netlist_reader.specs.declared.shape.GateShape.{GateShape}
use Rattle.netlist_reader.proofs.Codes.{differ}
use Rattle.netlist_reader.specs.Inside.{Begins}
use Rattle.netlist_reader.proofs.HexNumbers.{hex_injective}
use Rattle.netlist_reader.proofs.Names.{same_bar}

-- the gate that a reserved word is
abbrev op_from : ℕ → Op
op_from p =
    if p == AND then And else (if p == NAND then Nand else (if p == OR then Or else (if p == NOR then Nor
    else (if p == XOR then Xor else (if p == XNOR then Xnor else (if p == BUF then Buf else Not))))))

abbrev place_in : Word → ℕ
place_in w = elim w.kind [ Name ↦ 0 | Keyword p ↦ p | Number n ↦ 0 | Constant s v ↦ 0 | Mark b ↦ 0 ]

pub key_op : (o : Op) (n p : ℕ) → op_word o n ≡ key p → o ≡ op_from p
key_op And n p e = ap (λ w. op_from (place_in w)) e
key_op Nand n p e = ap (λ w. op_from (place_in w)) e
key_op Or n p e = ap (λ w. op_from (place_in w)) e
key_op Nor n p e = ap (λ w. op_from (place_in w)) e
key_op Xor n p e = ap (λ w. op_from (place_in w)) e
key_op Xnor n p e = ap (λ w. op_from (place_in w)) e
key_op Buf n p e = ap (λ w. op_from (place_in w)) e
key_op Not n p e = ap (λ w. op_from (place_in w)) e
key_op (Table t) n p e = absurd (keyed p e)
  where
    keyed : (q : ℕ) → name (op_form (Table t) n) ≡ key q → ⊥
    keyed q f = differ (name (op_form (Table t) n) ∷ []) (key q ∷ []) (λ i. f i ∷ []) refl

-- Tables.

-- a table of a cell fits 64 bits
pub rows_fit : (k h : ℕ) → k ≤ 6 → h < 2 ^ (2 ^ k) → h < 2 ^ 64
rows_fit zero h few fits = omega arith
rows_fit (suc zero) h few fits = omega arith
rows_fit (suc (suc zero)) h few fits = omega arith
rows_fit (suc (suc (suc zero))) h few fits = omega arith
rows_fit (suc (suc (suc (suc zero)))) h few fits = omega arith
rows_fit (suc (suc (suc (suc (suc zero))))) h few fits = omega arith
rows_fit (suc (suc (suc (suc (suc (suc zero)))))) h few fits = omega arith
rows_fit (suc (suc (suc (suc (suc (suc (suc k))))))) h few fits = absurd (omega arith)

table_text : (h k : ℕ) → op_form (Table h) k ≡ codes "LUT" ++ (decimal k ++ 95 ∷ hex h)
table_text h k = ap (λ ds. codes "LUT" ++ ds) (append_assoc (decimal k) (95 ∷ []) (hex h))

pub same_table : (k h n t : ℕ) → k < 2 ^ 32 → h < 2 ^ 64 → n ≤ 6 → t < 2 ^ (2 ^ n) → (numbers digits : List ℕ) → numbers ≡ decimal k ++ 95 ∷ digits → codes "LUT" ++ numbers ≡ op_form (Table t) n → (k ≡ n) × (digits ≡ hex t) × (t < 2 ^ 64)
same_table k h n t small fits few rows numbers digits e whole =
    let tails : numbers ≡ decimal n ++ 95 ∷ hex t = append_cancel_left (codes "LUT") numbers (decimal n ++ 95 ∷ hex t) (whole ∙ table_text t n) in
    let parts = same_bar k n digits (hex t) small (omega arith) (sym e ∙ tails) in
    (parts.0, parts.1, rows_fit n t few rows)

pub no_digits : (bytes numbers digits : List ℕ) (k : ℕ) → k < 2 ^ 32 → bytes ≡ codes "LUT" ++ numbers → numbers ≡ decimal k ++ 95 ∷ digits → ((h : ℕ) → h < 2 ^ 64 → digits ≢ hex h) → (n t : ℕ) → n ≤ 6 → t < 2 ^ (2 ^ n) → bytes ≢ op_form (Table t) n
no_digits bytes numbers digits k small e f none n t few rows g =
    let parts = same_table k 0 n t small (omega arith) few rows numbers digits f (sym e ∙ g) in
    none t parts.2 parts.1

pub no_table : (bytes numbers digits : List ℕ) (k h : ℕ) → k < 2 ^ 32 → (h < 2 ^ 64) × (digits ≡ hex h) → bytes ≡ codes "LUT" ++ numbers → numbers ≡ decimal k ++ 95 ∷ digits → ((k ≤ 6) × (h < 2 ^ (2 ^ k)) → ⊥) → (n t : ℕ) → n ≤ 6 → t < 2 ^ (2 ^ n) → bytes ≢ op_form (Table t) n
no_table bytes numbers digits k h small is e f none n t few rows g =
    let parts = same_table k h n t small is.0 few rows numbers digits f (sym e ∙ g) in
    let same = hex_injective h t is.0 parts.2 (sym is.1 ∙ parts.1) in
    none (subst (λ m. m ≤ 6) (sym parts.0) few, subst (λ m. h < 2 ^ (2 ^ m)) (sym parts.0) (subst (λ x. x < 2 ^ (2 ^ n)) (sym same) rows))

-- the form of a table's name
pub table_is : (bytes : List ℕ) (k h : ℕ) → (k ≤ 6) × (h < 2 ^ (2 ^ k)) × (bytes ≡ op_form (Table h) k) → IsShapeOf (record { op = Table h; least = k; most = k }) (name bytes)
table_is bytes k h is = record {
  order = omega arith;
  fits = λ n least few.
      let same : k ≡ n = omega arith in (
        ap (λ m. name (op_form (Table h) m)) (sym same) ∙ ap name (sym is.2),
        subst (λ m. IsTrue (nat_lt h (2 ^ (2 ^ m)))) same (grind (arith, nat_tests, is.1)),
        omega (arith, is.0),
      );
  only = only;
} where
  only : (op : Op) (n : ℕ) → op_word op n ≡ name bytes → IsTrue (inputs_fit op n) → n ≤ most_inputs op → (op ≡ Table h) × (k ≤ n) × (n ≤ k)
  only And n e fit few = absurd (differ (key AND ∷ []) (name bytes ∷ []) (λ i. e i ∷ []) refl)
  only Nand n e fit few = absurd (differ (key NAND ∷ []) (name bytes ∷ []) (λ i. e i ∷ []) refl)
  only Or n e fit few = absurd (differ (key OR ∷ []) (name bytes ∷ []) (λ i. e i ∷ []) refl)
  only Nor n e fit few = absurd (differ (key NOR ∷ []) (name bytes ∷ []) (λ i. e i ∷ []) refl)
  only Xor n e fit few = absurd (differ (key XOR ∷ []) (name bytes ∷ []) (λ i. e i ∷ []) refl)
  only Xnor n e fit few = absurd (differ (key XNOR ∷ []) (name bytes ∷ []) (λ i. e i ∷ []) refl)
  only Buf n e fit few = absurd (differ (key BUF ∷ []) (name bytes ∷ []) (λ i. e i ∷ []) refl)
  only Not n e fit few = absurd (differ (key NOT ∷ []) (name bytes ∷ []) (λ i. e i ∷ []) refl)
  only (Table t) n e fit few =
      let rows : t < 2 ^ (2 ^ n) = grind (arith, nat_tests) in
      let text : op_form (Table h) k ≡ op_form (Table t) n = sym is.2 ∙ sym (ap (λ (w : Word). w.name) e) in
      let parts = same_table k h n t (omega (arith, is.0)) (rows_fit k h is.0 is.1) few rows (decimal k ++ 95 ∷ hex h) (hex h) refl (sym (table_text h k) ∙ text) in
      let same = hex_injective h t (rows_fit k h is.0 is.1) parts.2 parts.1 in
      (ap Table (sym same), omega (arith, parts.0), omega (arith, parts.0))

-- what the next word shows where it is a name
pub shows_name : (nets : ℕ) (words : List Word) (bytes : List ℕ) (found : Option GateShape) → 0 < nets → TellsKey words None → TellsName words bytes → ShapeIs (name bytes) found → ShowsGate nets words found
shows_name nets words bytes (Some shape) some keys names is =
    (subst_begins words (names.there (named shape.op (is.fits shape.least (omega arith) is.order).0)), some)
  where
    subst_begins : (ws : List Word) → Begins (λ w. w ≡ name bytes) ws → Begins (IsShapeOf shape) ws
    subst_begins [] b = b
    subst_begins (w ∷ ws) b = subst (IsShapeOf shape) (sym b) is

    named : (op : Op) → op_word op shape.least ≡ name bytes → 0 < length bytes
    named And f = absurd (differ (key AND ∷ []) (name bytes ∷ []) (λ i. f i ∷ []) refl)
    named Nand f = absurd (differ (key NAND ∷ []) (name bytes ∷ []) (λ i. f i ∷ []) refl)
    named Or f = absurd (differ (key OR ∷ []) (name bytes ∷ []) (λ i. f i ∷ []) refl)
    named Nor f = absurd (differ (key NOR ∷ []) (name bytes ∷ []) (λ i. f i ∷ []) refl)
    named Xor f = absurd (differ (key XOR ∷ []) (name bytes ∷ []) (λ i. f i ∷ []) refl)
    named Xnor f = absurd (differ (key XNOR ∷ []) (name bytes ∷ []) (λ i. f i ∷ []) refl)
    named Buf f = absurd (differ (key BUF ∷ []) (name bytes ∷ []) (λ i. f i ∷ []) refl)
    named Not f = absurd (differ (key NOT ∷ []) (name bytes ∷ []) (λ i. f i ∷ []) refl)
    named (Table t) f = subst (λ b. 0 < length b) (ap (λ (w : Word). w.name) f) (omega arith)
shows_name nets words bytes None some keys names none = λ b. go words keys names b
  where
    go : (ws : List Word) → TellsKey ws None → TellsName ws bytes → Begins (IsGateFirst nets) ws → ⊥
    go [] k n b = b
    go (w ∷ ws) k n b = of_op b.0.op b.2 b.1.form b.1.few k n
      where
        of_op : (op : Op) → op_word op (length b.0.inputs) ≡ w → IsTrue (inputs_fit op (length b.0.inputs)) → length b.0.inputs ≤ most_inputs op → TellsKey (w ∷ ws) None → TellsName (w ∷ ws) bytes → ⊥
        of_op And e fit few keys names = keys AND (sym e)
        of_op Nand e fit few keys names = keys NAND (sym e)
        of_op Or e fit few keys names = keys OR (sym e)
        of_op Nor e fit few keys names = keys NOR (sym e)
        of_op Xor e fit few keys names = keys XOR (sym e)
        of_op Xnor e fit few keys names = keys XNOR (sym e)
        of_op Buf e fit few keys names = keys BUF (sym e)
        of_op Not e fit few keys names = keys NOT (sym e)
        of_op (Table t) e fit few keys names =
            none (Table t) (length b.0.inputs) (ap name (names.only (op_form (Table t) (length b.0.inputs)) (sym e))) fit few

-- a form that is a table's name is that table's
pub same_tables : (k h : ℕ) (op : Op) (n : ℕ) → k ≤ 6 → IsTrue (nat_lt h (2 ^ (2 ^ k))) → op_word op n ≡ name (op_form (Table h) k) → IsTrue (inputs_fit op n) → n ≤ most_inputs op → op ≡ Table h
same_tables k h op n few rows e fit least =
    let below : h < 2 ^ (2 ^ k) = grind (arith, nat_tests) in
    ((table_is (op_form (Table h) k) k h (few, below, refl)).only op n e fit least).0
