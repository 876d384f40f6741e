-- Nets and their subjects, taken one by one.
use Rattle.std.proofs.Common.{◌≡◌, ◌<◌, ◌+◌, ℕ, zero, suc, Bool, true, false, List, [], ◌∷◌, length, map, refl, sym, subst, ap, ◌∙◌, arith, drop, get_or}
use Rattle.std.specs.Prelude.{◌&&◌, Option, Some, zip}
use Rattle.std.specs.Option.{option_map_or}
use Rattle.std.specs.List.{enumerate_from, list_all}
use Rattle.std.proofs.lemmas.List.{length-map}
use Rattle.id_arena.specs.declared.keys.ChipNetId.{ChipNetId}
use Rattle.id_arena.specs.declared.keys.MemId.{MemId}
use Rattle.id_arena.specs.declared.keys.NetId.{NetId}
use Rattle.design_core.specs.declared.element.Edge.{Edge}
use Rattle.design_core.specs.declared.element.ReadPort.{ReadPort}
use Rattle.emu_machine.specs.declared.map.Subject.{Subject}
use Rattle.emu_machine.specs.declared.map.Subject.TheVariants.{Net, Old}
use Rattle.emu_machine.specs.Results.{Results}
use Rattle.emu_machine.specs.Origins.{has_subject, have_subjects, read_subjects}
use Rattle.shape_check.specs.Ports.{old_bits}

and_none : (a b : Bool) → false ≡ b → false ≡ (a && b)
and_none true b e = e
and_none false b e = refl

and_false : (a b : Bool) → a ≡ false → (a && b) ≡ false
and_false true b e = sym (ap (λ (x : Bool). x && b) (sym e)) ∙ refl
and_false false b e = refl

and_true : (a b : Bool) → a ≡ true → (a && b) ≡ b
and_true true b e = refl
and_true false b e = ap (λ (x : Bool). x && b) e

module _ (r : Results) (c : ℕ) where
  -- lists of different lengths do not fit
  pub unequal : (nets : List ChipNetId) (subjects : List Subject) → (length nets ≡ length subjects → ⊥) → false ≡ have_subjects r c nets subjects
  unequal [] [] e = absurd (e refl)
  unequal [] (x ∷ xs) e = refl
  unequal (n ∷ ns) [] e = refl
  unequal (n ∷ ns) (x ∷ xs) e =
      and_none (has_subject r c n x) (have_subjects r c ns xs) (unequal ns xs (λ same. e (ap (λ (k : ℕ). suc k) same)))

  pub unequal_nets : (nets : List ChipNetId) (of : List NetId) → (length nets ≡ length of → ⊥) → false ≡ have_subjects r c nets (map Net of)
  unequal_nets nets of e = unequal nets (map Net of) (λ same. e (same ∙ length-map of Net))

  one_step : (nets : List ChipNetId) (subjects : List Subject) (i : ℕ) (n : ChipNetId) (x : Subject) → i < length nets → i < length subjects
      → have_subjects r c (drop i nets) (drop i subjects) ≡ (has_subject r c (get_or nets i n) (get_or subjects i x) && have_subjects r c (drop (suc i) nets) (drop (suc i) subjects))
  one_step [] xs i n x low less = absurd (omega (arith, low))
  one_step (m ∷ ns) [] i n x low less = absurd (omega (arith, less))
  one_step (m ∷ ns) (y ∷ ys) zero n x low less = refl
  one_step (m ∷ ns) (y ∷ ys) (suc i) n x low less =
      let l : i < length ns = omega (arith, low) in
      let k : i < length ys = omega (arith, less) in
      one_step ns ys i n x l k

  pub next : (nets : List ChipNetId) (subjects : List Subject) (i j : ℕ) (n : ChipNetId) (x : Subject) → i < length nets → i < length subjects → j ≡ i + 1
      → have_subjects r c (drop i nets) (drop i subjects) ≡ (has_subject r c (get_or nets i n) (get_or subjects i x) && have_subjects r c (drop j nets) (drop j subjects))
  next nets subjects i j n x low less one =
      let s : suc i ≡ j = omega (arith, one) in
      subst (λ (k : ℕ). have_subjects r c (drop i nets) (drop i subjects) ≡ (has_subject r c (get_or nets i n) (get_or subjects i x) && have_subjects r c (drop k nets) (drop k subjects))) s
      (one_step nets subjects i n x low less)

  one_net : (nets : List ChipNetId) (of : List NetId) (i : ℕ) (n : ChipNetId) (x : NetId) → i < length nets → i < length of
      → have_subjects r c (drop i nets) (map Net (drop i of)) ≡ (has_subject r c (get_or nets i n) (Net (get_or of i x)) && have_subjects r c (drop (suc i) nets) (map Net (drop (suc i) of)))
  one_net [] xs i n x low less = absurd (omega (arith, low))
  one_net (m ∷ ns) [] i n x low less = absurd (omega (arith, less))
  one_net (m ∷ ns) (y ∷ ys) zero n x low less = refl
  one_net (m ∷ ns) (y ∷ ys) (suc i) n x low less =
      let l : i < length ns = omega (arith, low) in
      let k : i < length ys = omega (arith, less) in
      one_net ns ys i n x l k

  pub next_net : (nets : List ChipNetId) (of : List NetId) (i j : ℕ) (n : ChipNetId) (x : NetId) → i < length nets → i < length of → j ≡ i + 1
      → have_subjects r c (drop i nets) (map Net (drop i of)) ≡ (has_subject r c (get_or nets i n) (Net (get_or of i x)) && have_subjects r c (drop j nets) (map Net (drop j of)))
  next_net nets of i j n x low less one =
      let s : suc i ≡ j = omega (arith, one) in
      subst (λ (k : ℕ). have_subjects r c (drop i nets) (map Net (drop i of)) ≡ (has_subject r c (get_or nets i n) (Net (get_or of i x)) && have_subjects r c (drop k nets) (map Net (drop k of)))) s
      (one_net nets of i n x low less)

  -- the bits of the word that port `k` of a memory takes, from bit `b` on
  abbrev pub olds : MemId → ℕ → ℕ → List NetId → List Subject
  olds of k b bits = map (λ (j, n). Old of k j) (enumerate_from b bits)

  olds_length : (of : MemId) (k b : ℕ) (bits : List NetId) → length (olds of k b bits) ≡ length bits
  olds_length of k b [] = refl
  olds_length of k b (n ∷ bits) = ap (λ (m : ℕ). suc m) (olds_length of k (b + 1) bits)

  pub unequal_olds : (nets : List ChipNetId) (of : MemId) (k b : ℕ) (bits : List NetId) → (length nets ≡ length bits → ⊥) → false ≡ have_subjects r c nets (olds of k b bits)
  unequal_olds nets of k b bits e = unequal nets (olds of k b bits) (λ same. e (same ∙ olds_length of k b bits))

  pub olds_are : (nets : List ChipNetId) (of : MemId) (k b : ℕ) (bits : List NetId) → length nets ≡ length bits → old_bits r c of k b nets ≡ have_subjects r c nets (olds of k b bits)
  olds_are [] of k b [] e = refl
  olds_are [] of k b (m ∷ bits) e = absurd (omega (arith, e))
  olds_are (n ∷ nets) of k b [] e = absurd (omega (arith, e))
  olds_are (n ∷ nets) of k b (m ∷ bits) e =
      let l : length nets ≡ length bits = omega (arith, e) in
      ap (λ (x : Bool). has_subject r c n (Old of k b) && x) (olds_are nets of k (b + 1) bits l)

  pub read_is : (of : MemId) (k : ℕ) (design : ReadPort) (clock : Edge) → design.clock ≡ Some clock → olds of k 0 design.bits ≡ read_subjects of k design
  read_is of k design clock is =
      sym (ap (λ (o : Option Edge). option_map_or (λ (c : Edge). olds of k 0 design.bits) o (map Net design.bits)) is)

-- what a walk has found so far comes to the whole: one more passes, one does not, or none is left
pub goes_on : (now whole here rest : Bool) → now ≡ whole → now ≡ (here && rest) → here ≡ true → rest ≡ whole
goes_on now whole here rest before is ok = sym (and_true here rest ok) ∙ sym is ∙ before

pub stops : (now whole here rest : Bool) → now ≡ whole → now ≡ (here && rest) → here ≡ false → false ≡ whole
stops now whole here rest before is bad = sym (and_false here rest bad) ∙ sym is ∙ before

module _ {X Y : Type 0} (test : ℕ → X → Y → Bool) where
  -- pairs of two lists with their numbers, of which the first is `n`
  abbrev pub pairs_pass : ℕ → List X → List Y → Bool
  pairs_pass n xs ys = list_all (λ (j, (x, y)). test j x y) (enumerate_from n (zip xs ys))

  one_pair : (xs : List X) (ys : List Y) (n i : ℕ) (x : X) (y : Y) → i < length xs → i < length ys
      → pairs_pass n (drop i xs) (drop i ys) ≡ (test n (get_or xs i x) (get_or ys i y) && pairs_pass (n + 1) (drop (suc i) xs) (drop (suc i) ys))
  one_pair [] ys n i x y low less = absurd (omega (arith, low))
  one_pair (a ∷ xs) [] n i x y low less = absurd (omega (arith, less))
  one_pair (a ∷ xs) (b ∷ ys) n zero x y low less = refl
  one_pair (a ∷ xs) (b ∷ ys) n (suc i) x y low less =
      let l : i < length xs = omega (arith, low) in
      let m : i < length ys = omega (arith, less) in
      one_pair xs ys n i x y l m

  pub next_pair : (xs : List X) (ys : List Y) (i : ℕ) (x : X) (y : Y) → i < length xs → i < length ys → x ≡ get_or xs i x → y ≡ get_or ys i y
      → pairs_pass i (drop i xs) (drop i ys) ≡ (test i x y && pairs_pass (i + 1) (drop (i + 1) xs) (drop (i + 1) ys))
  next_pair xs ys i x y low less is same =
      let s : suc i ≡ i + 1 = omega arith in
      subst (λ (a : X). pairs_pass i (drop i xs) (drop i ys) ≡ (test i a y && pairs_pass (i + 1) (drop (i + 1) xs) (drop (i + 1) ys))) (sym is)
      (subst (λ (b : Y). pairs_pass i (drop i xs) (drop i ys) ≡ (test i (get_or xs i x) b && pairs_pass (i + 1) (drop (i + 1) xs) (drop (i + 1) ys))) (sym same)
      (subst (λ (k : ℕ). pairs_pass i (drop i xs) (drop i ys) ≡ (test i (get_or xs i x) (get_or ys i y) && pairs_pass (i + 1) (drop k xs) (drop k ys))) s
      (one_pair xs ys i i x y low less)))

module _ {X : Type 0} (test : ℕ → X → Bool) where
  -- elements of a list with their numbers, of which the first is `n`
  abbrev pub all_pass : ℕ → List X → Bool
  all_pass n xs = list_all (λ (j, x). test j x) (enumerate_from n xs)

  one_element : (xs : List X) (n i : ℕ) (x : X) → i < length xs → all_pass n (drop i xs) ≡ (test n (get_or xs i x) && all_pass (n + 1) (drop (suc i) xs))
  one_element [] n i x low = absurd (omega (arith, low))
  one_element (a ∷ xs) n zero x low = refl
  one_element (a ∷ xs) n (suc i) x low = let l : i < length xs = omega (arith, low) in one_element xs n i x l

  pub next_element : (xs : List X) (i : ℕ) (x : X) → i < length xs → all_pass i (drop i xs) ≡ (test i (get_or xs i x) && all_pass (i + 1) (drop (i + 1) xs))
  next_element xs i x low =
      let s : suc i ≡ i + 1 = omega arith in
      subst (λ (k : ℕ). all_pass i (drop i xs) ≡ (test i (get_or xs i x) && all_pass (i + 1) (drop k xs))) s (one_element xs i i x low)
