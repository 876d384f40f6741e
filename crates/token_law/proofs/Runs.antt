-- Runs of bytes that pass a test, as parts of a text.
use Rattle.std.proofs.Common.{◌≡◌, ℕ, zero, suc, ◌+◌, ◌-◌, ◌≤◌, arith, Bool, true, false, List, [], ◌∷◌, length, drop, take, refl, sym, ap, ◌∙◌, cond}
use Rattle.std.specs.Prelude.{◌&&◌, Some, slice_get, slice_index, slice_range}
use Rattle.std.specs.List.{prefix_len, list_all}
use Rattle.std.proofs.lemmas.List.{drop-drop}
use Rattle.std.proofs.lemmas.Option.{none-some, same_Some}
use Rattle.facts.proofs.Tests.{left, right}

-- the bytes of a run pass
pub run_all : (p : ℕ → Bool) (text : List ℕ) → list_all p (take (prefix_len p text) text) ≡ true
run_all p [] = refl
run_all p (b ∷ rest) = go (p b) refl (run_all p rest)
  where
    go : (c : Bool) → p b ≡ c → list_all p (take (prefix_len p rest) rest) ≡ true → list_all p (take (cond c (1 + prefix_len p rest) 0) (b ∷ rest)) ≡ true
    go false e h = refl
    go true e h =
        let one : 1 + prefix_len p rest ≡ suc (prefix_len p rest) = omega arith in
        ap (λ n. list_all p (take n (b ∷ rest))) one ∙ ap (λ c. c && list_all p (take (prefix_len p rest) rest)) e ∙ h

-- a run that is not shorter than the text is the text
pub full_run : (p : ℕ → Bool) (text : List ℕ) → length text ≤ prefix_len p text → list_all p text ≡ true
full_run p [] le = refl
full_run p (b ∷ rest) le = go (p b) refl (full_run p rest) le
  where
    go : (c : Bool) → p b ≡ c → (length rest ≤ prefix_len p rest → list_all p rest ≡ true) → suc (length rest) ≤ cond c (1 + prefix_len p rest) 0 → list_all p (b ∷ rest) ≡ true
    go false e h le = absurd (omega (arith, le))
    go true e h le = ap (λ c. c && list_all p rest) e ∙ h (omega (arith, le))

pub all_both : (p q r : ℕ → Bool) → ((b : ℕ) → p b ≡ true → q b ≡ true → r b ≡ true) → (text : List ℕ) → list_all p text ≡ true → list_all q text ≡ true → list_all r text ≡ true
all_both p q r f [] h k = refl
all_both p q r f (b ∷ rest) h k =
    ap (λ c. c && list_all r rest) (f b (left (p b) (list_all p rest) h) (left (q b) (list_all q rest) k))
    ∙ all_both p q r f rest (right (p b) (list_all p rest) h) (right (q b) (list_all q rest) k)

pub take-le : (n : ℕ) (text : List ℕ) → length (take n text) ≤ n
take-le zero text = omega arith
take-le (suc n) [] = omega arith
take-le (suc n) (b ∷ rest) = omega (arith, take-le n rest)

-- a part of what is left of a text is a part of the text
pub part : (text : List ℕ) (at n m k : ℕ) → m ≡ n + k → slice_range text (at + n) (at + m) ≡ take k (drop n (drop at text))
part text at n m k e =
    let size : at + m - (at + n) ≡ k = omega arith in
    ap (λ k. take k (drop (at + n) text)) size ∙ ap (take k) (sym (drop-drop n at text))

pub run_part : (p : ℕ → Bool) (text : List ℕ) (at n m : ℕ) → m ≡ n + prefix_len p (drop n (drop at text)) → list_all p (slice_range text (at + n) (at + m)) ≡ true
run_part p text at n m e = ap (list_all p) (part text at n m (prefix_len p (drop n (drop at text))) e) ∙ run_all p (drop n (drop at text))

pub index_at : (text : List ℕ) (k c : ℕ) → (c ≡ 0 → ⊥) → slice_index text k ≡ c → slice_get text k ≡ Some c
index_at [] zero c some e = absurd (some (sym e))
index_at [] (suc k) c some e = absurd (some (sym e))
index_at (b ∷ rest) zero c some e = ap Some e
index_at (b ∷ rest) (suc k) c some e = index_at rest k c some e

-- the byte behind a run does not pass
pub run_stops : (p : ℕ → Bool) (text : List ℕ) (b : ℕ) → slice_get text (prefix_len p text) ≡ Some b → p b ≡ false
run_stops p [] b e = absurd (none-some b e)
run_stops p (x ∷ rest) b e = go (p x) refl (run_stops p rest b) e
  where
    go : (c : Bool) → p x ≡ c → (slice_get rest (prefix_len p rest) ≡ Some b → p b ≡ false) → slice_get (x ∷ rest) (cond c (1 + prefix_len p rest) 0) ≡ Some b → p b ≡ false
    go false f h e = ap p (sym (same_Some x b e)) ∙ f
    go true f h e =
        let one : 1 + prefix_len p rest ≡ suc (prefix_len p rest) = omega arith in
        h (ap (slice_get (x ∷ rest)) (sym one) ∙ e)
