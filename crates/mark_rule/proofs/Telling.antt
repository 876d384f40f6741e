-- Tables of nets that are told for one element of a list after the other.
use Rattle.std.proofs.Common.{◌≡◌, ◌<◌, ◌≤◌, ◌+◌, ℕ, Bool, true, false, List, length, get_or, take, refl, sym, subst, ap, ◌∙◌, arith}
use Rattle.std.specs.Prelude.{◌||◌, Some, slice_get, min, zip}
use Rattle.std.specs.List.{list_any}
use Rattle.std.proofs.lemmas.List.{take_all}
use Rattle.std.proofs.lemmas.List.Folds.{list_any_more}
use Rattle.std.proofs.lemmas.Option.{get_or_from_slice_get, slice_get_within}
use Rattle.std.proofs.lemmas.Slice.Zip.{length-zip}
use Rattle.facts.proofs.Places.{zip_at}
use Rattle.emu_machine.specs.declared.netlist.EmuRead.{EmuRead}
use Rattle.mark_rule.specs.Kept.{TellsAlso, keeps_bits}

or_assoc : (a b d : Bool) → ((a || b) || d) ≡ (a || (b || d))
or_assoc true b d = refl
or_assoc false b d = refl

-- one test after the other
pub tells_both : (p q : ℕ → Bool) (a b d : List Bool) → TellsAlso p a b → TellsAlso q b d → TellsAlso (λ n. p n || q n) a d
tells_both p q a b d before also = record {
  count = also.count ∙ before.count;
  tells = λ n less.
      let under : n < length b = subst (λ (k : ℕ). n < k) (sym before.count) less in
      also.tells n under ∙ ap (λ (v : Bool). v || q n) (before.tells n less) ∙ or_assoc (get_or a n false) (p n) (q n);
}

-- the same test, said otherwise
pub tells_same : (p q : ℕ → Bool) (a b : List Bool) → ((n : ℕ) → p n ≡ q n) → TellsAlso p a b → TellsAlso q a b
tells_same p q a b same tells = record {
  count = tells.count;
  tells = λ n less. tells.tells n less ∙ ap (λ (v : Bool). get_or a n false || v) (same n);
}

module _ {X : Type 0} (p : ℕ → X → Bool) (xs : List X) where
  -- one element more
  pub tells_more : (i : ℕ) (x : X) (a b d : List Bool) → slice_get xs i ≡ Some x → TellsAlso (λ n. list_any (p n) (take i xs)) a b → TellsAlso (λ n. p n x) b d
      → TellsAlso (λ n. list_any (p n) (take (i + 1) xs)) a d
  tells_more i x a b d at before also =
      tells_same (λ n. list_any (p n) (take i xs) || p n x) (λ n. list_any (p n) (take (i + 1) xs)) a d
      (λ n. ap (λ (y : X). list_any (p n) (take i xs) || p n y) (sym (get_or_from_slice_get xs i x x at)) ∙ sym (list_any_more (p n) xs i x (slice_get_within xs i x at)))
      (tells_both (λ n. list_any (p n) (take i xs)) (λ n. p n x) a b d before also)

  -- all elements
  pub tells_all : (i : ℕ) (a b : List Bool) → length xs ≤ i → TellsAlso (λ n. list_any (p n) (take i xs)) a b → TellsAlso (λ n. list_any (p n) xs) a b
  tells_all i a b past so = subst (λ (ys : List X). TellsAlso (λ n. list_any (p n) ys) a b) (take_all i xs past) so

module _ {X Y : Type 0} (p : ℕ → X × Y → Bool) (xs : List X) (ys : List Y) where
  -- one pair more
  pub tells_pair : (i : ℕ) (x : X) (y : Y) (a b d : List Bool) → slice_get xs i ≡ Some x → slice_get ys i ≡ Some y
      → TellsAlso (λ n. list_any (p n) (take i (zip xs ys))) a b → TellsAlso (λ n. p n (x, y)) b d
      → TellsAlso (λ n. list_any (p n) (take (i + 1) (zip xs ys))) a d
  tells_pair i x y a b d at beside before also = tells_more p (zip xs ys) i (x, y) a b d (zip_at xs ys i x y at beside) before also

  -- all pairs
  pub tells_pairs : (i : ℕ) (a b : List Bool) → length xs ≤ i → TellsAlso (λ n. list_any (p n) (take i (zip xs ys))) a b → TellsAlso (λ n. list_any (p n) (zip xs ys)) a b
  tells_pairs i a b past so =
      let short : length (zip xs ys) ≡ min (length xs) (length ys) = length-zip xs ys in
      tells_all p (zip xs ys) i a b (omega (arith, short, past)) so

-- the ports of a memory, by what a list of them shows
pub tells_ports : (reads shown : List EmuRead) (kept kept_shown : List Bool) (a b : List Bool) → shown ≡ reads → kept_shown ≡ kept
    → TellsAlso (λ n. list_any (keeps_bits n) (zip shown kept_shown)) a b → TellsAlso (λ n. list_any (keeps_bits n) (zip reads kept)) a b
tells_ports reads shown kept kept_shown a b same same_kept tells =
    subst (λ (ks : List Bool). TellsAlso (λ n. list_any (keeps_bits n) (zip reads ks)) a b) same_kept
    (subst (λ (ps : List EmuRead). TellsAlso (λ n. list_any (keeps_bits n) (zip ps kept_shown)) a b) same tells)
