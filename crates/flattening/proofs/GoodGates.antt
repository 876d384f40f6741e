-- Buffers and the gates of primitives are good elements.
use Rattle.std.proofs.Common.{◌≡◌, ◌==◌, ◌-◌, ◌<◌, ◌≤◌, ℕ, zero, suc, Bool, true, false, List, [], ◌∷◌, Option, Some, None, ap, arith, length, map, refl, slice_get, take}
use Rattle.std.specs.Prelude.{nat_lt, if◌then◌else◌}
use Rattle.std.proofs.lemmas.Bool.{le-leb, lt-ltb}
use Rattle.facts.proofs.Tests.{same_number}
use Rattle.id_arena.specs.declared.keys.NetId.{NetId}
use Rattle.verilog_lex.specs.declared.keyword.TheConstants.{AND, BUF, NAND, NOR, NOT, OR, XNOR}
use Rattle.verilog_lex.specs.declared.token.Token.{Token}
use Rattle.verilog_lex.specs.declared.token.TokenKind.{TokenKind}
use Rattle.verilog_lex.specs.declared.token.TokenKind.TheVariants as kind
use Rattle.design_core.specs.declared.element.Element.{Element}
use Rattle.design_core.specs.declared.element.Element.TheVariants as element
use Rattle.design_core.specs.declared.operation.Op.{Op}
use Rattle.design_core.specs.declared.operation.Op.TheVariants.{And, Nand, Or, Nor, Xor, Xnor, Buf, Not, Table}
use Rattle.design_core.specs.Design.{inputs_fit}
use Rattle.design_core.specs.Limits.{most_inputs}
use Rattle.flattening.specs.Pieces.{buffers}
use Rattle.flattening.specs.Primitives.{gates_of, inputs_of, last_of, one_input_gates, one_output_gate, op_at, op_at_place, op_of}
use Rattle.flattening.proofs.Everywhere.{Every}
use Rattle.flattening.proofs.GoodPieces.{AreBelow}
use Rattle.flattening.proofs.Growing.{IsSimple}

-- a gate
pub gate_simple : (n : ℕ) (op : Op) (inputs : List NetId) (output : NetId) → inputs_fit op (length inputs) ≡ true → length inputs ≤ most_inputs op → AreBelow n inputs → output.place < n → IsSimple n (element.Gate op inputs output)
gate_simple n op inputs output fits few reads drives = record {
  good = record { fits = fits; few = le-leb (length inputs) (most_inputs op) few; reads = reads; drives = (drives, tt) };
  apart = tt;
}

-- a `buf` from a net to another
pub buffer_simple : (n : ℕ) (source target : NetId) → source.place < n → target.place < n → IsSimple n (element.Gate Buf (source ∷ []) target)
buffer_simple n source target from to = gate_simple n Buf (source ∷ []) target refl (omega arith) (from, tt) to

pub buffers_simple : (n : ℕ) (from to : List NetId) → AreBelow n from → AreBelow n to → Every (IsSimple n) (buffers from to)
buffers_simple n [] to a b = tt
buffers_simple n (source ∷ from) [] a b = tt
buffers_simple n (source ∷ from) (target ∷ to) a b = (buffer_simple n source target a.0 b.0, buffers_simple n from to a.1 b.1)

-- ---- the words of primitives

abbrev pub IsWord : Op → Type 0
IsWord And = Unit {0}
IsWord Nand = Unit {0}
IsWord Or = Unit {0}
IsWord Nor = Unit {0}
IsWord Xor = Unit {0}
IsWord Xnor = Unit {0}
IsWord Buf = Unit {0}
IsWord Not = Unit {0}
IsWord (Table table) = ⊥

word_by : (a b c d e f h : Bool) → IsWord (if a then And else if b then Nand else if c then Or else if d then Nor else if e then Xnor else if f then Buf else if h then Not else Xor)
word_by true b c d e f h = tt
word_by false true c d e f h = tt
word_by false false true d e f h = tt
word_by false false false true e f h = tt
word_by false false false false true f h = tt
word_by false false false false false true h = tt
word_by false false false false false false true = tt
word_by false false false false false false false = tt

place_word : (place : ℕ) → IsWord (op_at_place place)
place_word place = word_by (place == AND) (place == NAND) (place == OR) (place == NOR) (place == XNOR) (place == BUF) (place == NOT)

kind_word : (k : TokenKind) → IsWord (op_of k)
kind_word kind.Name = tt
kind_word (kind.Keyword place) = place_word place
kind_word (kind.Number number) = tt
kind_word (kind.Constant size value) = tt
kind_word (kind.Mark byte) = tt

pub token_word : (tokens : List Token) (place : ℕ) → IsWord (op_at tokens place)
token_word tokens place = go (slice_get tokens place)
  where
    go : (found : Option Token) → IsWord (elim found [ None ↦ Xor | Some token ↦ op_of token.kind ])
    go None = tt
    go (Some token) = kind_word token.kind

-- ---- the gates of primitives

last_one : (nets : List NetId) → 1 ≤ length nets → length (last_of nets) ≡ 1
last_one [] some = absurd (omega (arith, some))
last_one (net ∷ []) some = refl
last_one (net ∷ next ∷ nets) some = last_one (next ∷ nets) (omega arith)

last_below : (n : ℕ) (nets : List NetId) → AreBelow n nets → AreBelow n (last_of nets)
last_below n [] all = tt
last_below n (net ∷ []) all = all
last_below n (net ∷ next ∷ nets) all = last_below n (next ∷ nets) all.1

-- gates with this input at the first of some terminals
fed_by : (n : ℕ) (op : Op) (input : List NetId) (count : ℕ) (nets : List NetId) → inputs_fit op (length input) ≡ true → length input ≤ most_inputs op → AreBelow n input → AreBelow n nets → Every (IsSimple n) (map (element.Gate op input) (take count nets))
fed_by n op input zero nets fits few reads all = tt
fed_by n op input (suc count) [] fits few reads all = tt
fed_by n op input (suc count) (net ∷ nets) fits few reads all = (gate_simple n op input net fits few reads all.0, fed_by n op input count nets fits few reads all.1)

fed_count : (op : Op) (input : List NetId) (count : ℕ) (nets : List NetId) → count ≤ length nets → length (map (element.Gate op input) (take count nets)) ≡ count
fed_count op input zero nets le = refl
fed_count op input (suc count) [] le = absurd (omega (arith, le))
fed_count op input (suc count) (net ∷ nets) le = ap suc (fed_count op input count nets (omega (arith, le)))

-- what is asked of the gates of a primitive: they are good, and there is one
record AreGates (n : ℕ) (es : List Element) : Type 0 where
  simple : Every (IsSimple n) es
  some : 1 ≤ length es

-- `buf` and `not`
one_input : (n : ℕ) (op : Op) (nets : List NetId) → ((k : ℕ) → k ≡ 1 → inputs_fit op k ≡ true) → most_inputs op ≡ 64 → 2 ≤ length nets → AreBelow n nets → AreGates n (one_input_gates op nets)
one_input n op nets fit most two all =
    let one = last_one nets (omega (arith, two)) in
    let count = fed_count op (last_of nets) (length nets - 1) nets (omega arith) in
    record {
      simple = fed_by n op (last_of nets) (length nets - 1) nets (fit (length (last_of nets)) one) (omega (arith, one, most)) (last_below n nets all) all;
      some = omega (arith, count, two);
    }

-- the other words
one_output : (n : ℕ) (op : Op) (nets : List NetId) → ((k : ℕ) → 0 < k → inputs_fit op k ≡ true) → most_inputs op ≡ 64 → 2 ≤ length nets → length nets - 1 ≤ 64 → AreBelow n nets → AreGates n (one_output_gate op nets)
one_output n op [] fit most two few all = absurd (omega (arith, two))
one_output n op (output ∷ inputs) fit most two few all = record {
  simple = (gate_simple n op inputs output (fit (length inputs) (omega (arith, two))) (omega (arith, few, most)) all.1 all.0, tt);
  some = omega arith;
}

some_fit : (k : ℕ) → 0 < k → nat_lt 0 k ≡ true
some_fit k some = lt-ltb 0 k some

one_fit : (k : ℕ) → k ≡ 1 → (k == 1) ≡ true
one_fit k one = same_number k 1 one

gates_are : (n : ℕ) (op : Op) (nets : List NetId) → IsWord op → 2 ≤ length nets → inputs_of op (length nets) ≤ 64 → AreBelow n nets → AreGates n (gates_of op nets)
gates_are n And nets word two few all = one_output n And nets some_fit refl two few all
gates_are n Nand nets word two few all = one_output n Nand nets some_fit refl two few all
gates_are n Or nets word two few all = one_output n Or nets some_fit refl two few all
gates_are n Nor nets word two few all = one_output n Nor nets some_fit refl two few all
gates_are n Xor nets word two few all = one_output n Xor nets some_fit refl two few all
gates_are n Xnor nets word two few all = one_output n Xnor nets some_fit refl two few all
gates_are n Buf nets word two few all = one_input n Buf nets one_fit refl two all
gates_are n Not nets word two few all = one_input n Not nets one_fit refl two all
gates_are n (Table table) nets word two few all = absurd word

pub gates_simple : (n : ℕ) (op : Op) (nets : List NetId) → IsWord op → 2 ≤ length nets → inputs_of op (length nets) ≤ 64 → AreBelow n nets → Every (IsSimple n) (gates_of op nets)
gates_simple n op nets word two few all = (gates_are n op nets word two few all).simple

pub gates_some : (n : ℕ) (op : Op) (nets : List NetId) → IsWord op → 2 ≤ length nets → inputs_of op (length nets) ≤ 64 → AreBelow n nets → 1 ≤ length (gates_of op nets)
gates_some n op nets word two few all = (gates_are n op nets word two few all).some
