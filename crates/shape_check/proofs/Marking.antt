-- Tables that are marked for one element of a list after the other.
use Rattle.std.proofs.Common.{◌≡◌, ◌<◌, ◌≤◌, ◌+◌, ℕ, suc, Bool, true, false, List, [], ◌∷◌, length, get_or, take, refl, sym, subst, ap, ◌∙◌, arith}
use Rattle.std.specs.Prelude.{◌||◌, min, zip}
use Rattle.std.specs.List.{enumerate_from, list_any}
use Rattle.std.proofs.lemmas.List.{get_or_default, take_all}
use Rattle.std.proofs.lemmas.List.Folds.{list_any_more}
use Rattle.std.proofs.lemmas.Slice.Zip.{get_or-zip, length-zip}
use Rattle.std.proofs.lemmas.List.FromFn.{get_or-enumerate_from}
use Rattle.emu_machine.specs.declared.netlist.Chip.{Chip}
use Rattle.emu_machine.specs.Netlist.{no_chip}
use Rattle.emu_machine.specs.Results.{Results}
use Rattle.emu_machine.specs.Acceptance.{chip_keeps, is_register_kept}
use Rattle.shape_check.specs.Mapped.{AreMarkedAlso, net}

or_assoc : (a b d : Bool) → ((a || b) || d) ≡ (a || (b || d))
or_assoc true b d = refl
or_assoc false b d = refl

module _ {X : Type 0} (p : ℕ → X → Bool) (xs : List X) where
  -- one element more
  pub marks_more : (i : ℕ) (x : X) (a b d : List Bool) → i < length xs → x ≡ get_or xs i x → AreMarkedAlso (λ n. list_any (p n) (take i xs)) a b → AreMarkedAlso (λ n. p n x) b d
      → AreMarkedAlso (λ n. list_any (p n) (take (i + 1) xs)) a d
  marks_more i x a b d low is before also = record {
    same_length = also.same_length ∙ before.same_length;
    marks = λ n less.
        let under : n < length b = subst (λ (k : ℕ). n < k) (sym before.same_length) less in
        also.marks n under
        ∙ ap (λ (v : Bool). v || p n x) (before.marks n less)
        ∙ or_assoc (get_or a n false) (list_any (p n) (take i xs)) (p n x)
        ∙ ap (λ (v : Bool). get_or a n false || v) (ap (λ (y : X). list_any (p n) (take i xs) || p n y) is ∙ sym (list_any_more (p n) xs i x low));
  }

  -- all elements
  pub marks_all : (i : ℕ) (a b : List Bool) → length xs ≤ i → AreMarkedAlso (λ n. list_any (p n) (take i xs)) a b → AreMarkedAlso (λ n. list_any (p n) xs) a b
  marks_all i a b past so = subst (λ (ys : List X). AreMarkedAlso (λ n. list_any (p n) ys) a b) (take_all i xs past) so

module _ {X Y : Type 0} (xs : List X) (ys : List Y) (same : length ys ≡ length xs) where
  pub pairs_length : length (zip xs ys) ≡ length xs
  pairs_length = let e : length (zip xs ys) ≡ min (length xs) (length ys) = length-zip xs ys in omega (arith, e, same)

  pub pair_at : (i : ℕ) (x : X) (y : Y) → i < length xs → ◌≡◌ {A = X × Y} (get_or xs i x, get_or ys i y) (get_or (zip xs ys) i (get_or xs i x, get_or ys i y))
  pair_at i x y low =
      let low_y : i < length ys = omega (arith, same, low) in
      let stays : get_or xs i (get_or xs i x) ≡ get_or xs i x = get_or_default xs i (get_or xs i x) x low in
      let stays_y : get_or ys i (get_or ys i y) ≡ get_or ys i y = get_or_default ys i (get_or ys i y) y low_y in
      sym (get_or-zip xs ys i (get_or xs i x, get_or ys i y) low low_y ∙ ap (λ (a : X). (a, get_or ys i (get_or ys i y))) stays ∙ ap (λ (b : Y). (get_or xs i x, b)) stays_y)

many : {X : Type 0} (n : ℕ) (xs : List X) → length (enumerate_from n xs) ≡ length xs
many n [] = refl
many n (x ∷ xs) = ap (λ (k : ℕ). suc k) (many (n + 1) xs)

module _ (r : Results) where
  abbrev pub chip_test : ℕ → ℕ × Chip → Bool
  chip_test n = λ (k, chip). chip_keeps r (net n) k

  pub marks_chip : (k i : ℕ) (a b d : List Bool) → k < length r.net → AreMarkedAlso (λ n. list_any (chip_test n) (take k (enumerate_from 0 r.net))) a b → AreMarkedAlso (λ n. chip_keeps r (net n) i) b d → i ≡ k
      → AreMarkedAlso (λ n. list_any (chip_test n) (take (k + 1) (enumerate_from 0 r.net))) a d
  marks_chip k i a b d low before also same =
      marks_more chip_test (enumerate_from 0 r.net) k (k, get_or r.net k no_chip) a b d within is before
      (subst (λ (j : ℕ). AreMarkedAlso (λ n. chip_keeps r (net n) j) b d) same also)
    where
      within : k < length (enumerate_from 0 r.net)
      within = let e : length (enumerate_from 0 r.net) ≡ length r.net = many 0 r.net in omega (arith, e, low)

      zero_plus : 0 + k ≡ k
      zero_plus = omega arith

      is : ◌≡◌ {A = ℕ × Chip} (k, get_or r.net k no_chip) (get_or (enumerate_from 0 r.net) k (k, get_or r.net k no_chip))
      is =
          sym (get_or-enumerate_from 0 r.net k (k, get_or r.net k no_chip) low
          ∙ ap (λ (j : ℕ). (j, get_or r.net k (get_or r.net k no_chip))) zero_plus
          ∙ ap (λ (x : Chip). (k, x)) (get_or_default r.net k (get_or r.net k no_chip) no_chip low))

  pub marks_chips : (k : ℕ) (a b : List Bool) → length r.net ≤ k → AreMarkedAlso (λ n. list_any (chip_test n) (take k (enumerate_from 0 r.net))) a b → AreMarkedAlso (λ n. is_register_kept r (net n)) a b
  marks_chips k a b past so =
      let e : length (enumerate_from 0 r.net) ≡ length r.net = many 0 r.net in
      marks_all chip_test (enumerate_from 0 r.net) k a b (omega (arith, e, past)) so
