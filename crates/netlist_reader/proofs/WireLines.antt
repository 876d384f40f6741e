-- Declarations of nets, one after another.
use Rattle.std.proofs.Common.{◌≡◌, ◌+◌, ◌*◌, ◌<◌, ◌^◌, ℕ, zero, suc, List, [], ◌∷◌, ◌++◌, Result, Ok, Err, length, drop, refl, sym, ap, ◌∙◌, subst, arith}
use Rattle.std.specs.Prelude.{IsErr, flat_map}
use Rattle.std.specs.Result.{IsErrAnd}
use Rattle.std.specs.List.{range_with_len}
use Rattle.std.proofs.Math.Nat.{suc-mul}
use Rattle.std.proofs.lemmas.List.{append-nil, length-append}
use Rattle.token_words.specs.Word.{Word}
use Rattle.netlist_reader.specs.Netlist.{wire_words, wires}
use Rattle.netlist_reader.specs.Inside.{Anything, Begins, NoMore, Reads, ReadsAll}
use Rattle.netlist_reader.specs.Wires.{IsNetCount, IsWireWord}
use Rattle.netlist_reader.specs.declared.fault.Stop.{Stop}
use Rattle.netlist_reader.specs.declared.fault.Stop.TheVariants as stop
use Rattle.netlist_reader.proofs.Stucks.{begins_alike, within}

abbrev pub wires_from : ℕ → ℕ → List Word
wires_from a n = flat_map wire_words (range_with_len a n)

more_from : (a k : ℕ) (rest : List Word) → wires_from a (suc k) ++ rest ≡ wires_from a k ++ (wire_words (a + k) ++ rest)
more_from a zero rest = let same : a ≡ a + 0 = omega arith in ap (λ n. wire_words n ++ rest) same
more_from a (suc k) rest =
    let same : (a + 1) + k ≡ a + suc k = omega arith in
    ap (λ ws. wire_words a ++ ws) (more_from (a + 1) k rest)
    ∙ ap (λ n. wire_words a ++ (wires_from (a + 1) k ++ (wire_words n ++ rest))) same

-- one declaration more
pub wires_more : (k : ℕ) (before rest after : List Word) → before ≡ wires k ++ rest → rest ≡ wire_words k ++ after → before ≡ wires (k + 1) ++ after
wires_more k before rest after e f =
    let number : 0 + k ≡ k = omega arith in
    let count : suc k ≡ k + 1 = omega arith in
    let step = more_from 0 k after in
    e ∙ ap (λ r. wires k ++ r) f ∙ ap (λ n. wires k ++ (wire_words n ++ after)) (sym number) ∙ sym step ∙ ap (λ n. wires n ++ after) count

same_wires_from : (a m n : ℕ) (x y : List Word) → (Begins IsWireWord x → ⊥) → (Begins IsWireWord y → ⊥) → wires_from a m ++ x ≡ wires_from a n ++ y → (m ≡ n) × (x ≡ y)
same_wires_from a zero zero x y end end-2 e = (refl, e)
same_wires_from a zero (suc n) x y end end-2 e = absurd (end (subst (Begins IsWireWord) (sym e) refl))
same_wires_from a (suc m) zero x y end end-2 e = absurd (end-2 (subst (Begins IsWireWord) e refl))
same_wires_from a (suc m) (suc n) x y end end-2 e =
    let tail : wires_from (a + 1) m ++ x ≡ wires_from (a + 1) n ++ y = ap (λ ws. drop 3 ws) e in
    let rest = same_wires_from (a + 1) m n x y end end-2 tail in
    (ap suc rest.0, rest.1)

-- declarations end where none begins
pub same_wires : (m n : ℕ) (x y : List Word) → (Begins IsWireWord x → ⊥) → (Begins IsWireWord y → ⊥) → wires m ++ x ≡ wires n ++ y → (m ≡ n) × (x ≡ y)
same_wires = same_wires_from 0

next_wire_from : (a m n : ℕ) (x y : List Word) → Begins IsWireWord x → (Begins IsWireWord y → ⊥) → wires_from a m ++ x ≡ wires_from a n ++ y → (rest : List Word) × (x ≡ wire_words (a + m) ++ rest)
next_wire_from a zero zero x y begun end e = absurd (end (subst (Begins IsWireWord) e begun))
next_wire_from a zero (suc n) x y begun end e =
    let same : a ≡ a + 0 = omega arith in
    (wires_from (a + 1) n ++ y, e ∙ ap (λ k. wire_words k ++ (wires_from (a + 1) n ++ y)) same)
next_wire_from a (suc m) zero x y begun end e = absurd (end (subst (Begins IsWireWord) e refl))
next_wire_from a (suc m) (suc n) x y begun end e =
    let tail : wires_from (a + 1) m ++ x ≡ wires_from (a + 1) n ++ y = ap (λ ws. drop 3 ws) e in
    let found = next_wire_from (a + 1) m n x y begun end tail in
    let same : (a + 1) + m ≡ a + suc m = omega arith in
    (found.0, found.1 ∙ ap (λ k. wire_words k ++ found.0) same)

wires_size : (a n : ℕ) → length (wires_from a n) ≡ n * 3
wires_size a zero = omega arith
wires_size a (suc n) = (let rest = wires_size (a + 1) n in let product = suc-mul n 3 in omega arith)

some_word : (mid : List Word) → Begins IsWireWord mid → 0 < length mid
some_word [] b = absurd b
some_word (w ∷ ws) b = omega arith

-- so many nets have been declared
pub count_fits : (nets : ℕ) (before mid : List Word) → length before < 2 ^ 32 → before ≡ wires nets ++ mid → Begins IsWireWord mid → nets + 1 < 2 ^ 32
count_fits nets before mid few split begun =
    let size = wires_size 0 nets in
    let some = some_word mid begun in
    let sizes = length-append (wires nets) mid in
    let whole : length before ≡ length (wires nets ++ mid) = ap length split in
    omega arith

-- where reading stops in a declaration, it stops in the declarations
pub wires_stop : (nets : ℕ) (before mid after : List Word) (r : Result ℕ Stop) (s : Stop) → IsErr r × IsErrAnd r (λ e. e ≡ s) → length before < 2 ^ 32 → before ≡ wires nets ++ mid → Begins IsWireWord mid → Reads {A = Unit {0}} (λ u. Unit {0}) (λ u. wire_words nets) mid after (Err s) → ReadsAll IsNetCount IsWireWord wires before after r
wires_stop nets before mid after (Ok n) s is few split begun part = absurd is.1
wires_stop nets before mid after (Err e) s is few split begun part =
    subst (λ f. ReadsAll IsNetCount IsWireWord wires before after (Err f)) (sym is.1) (go s part)
  where
    go : (t : Stop) → Reads {A = Unit {0}} (λ u. Unit {0}) (λ u. wire_words nets) mid after (Err t) → ReadsAll IsNetCount IsWireWord wires before after (Err t)
    go stop.Stuck stuck =
        within {B = Unit {0}} IsNetCount (λ u. Unit {0}) (NoMore IsWireWord) Anything wires (λ u. wire_words nets) (wires nets) before mid after split stuck
        (λ u is-2. (
          nets + 1,
          [],
          count_fits nets before mid few split begun,
          sym (append-nil (wires (nets + 1))) ∙ sym (wires_more nets (wires nets ++ (wire_words nets ++ [])) (wire_words nets ++ []) [] refl refl),
        ))
        (λ n more words is-2 may follows e.
        let found = next_wire_from 0 nets n words more (begins_alike IsWireWord mid words follows begun) may (sym e) in
        let number : 0 + nets ≡ nets = omega arith in
        (tt, found.0, tt, tt, found.1 ∙ ap (λ k. wire_words k ++ found.0) number))
    go stop.NoMemory none = tt
