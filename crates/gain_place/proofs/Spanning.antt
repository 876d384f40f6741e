-- The number of chips that elements are on, as they are gone over, and what it says of a net.
use Rattle.std.proofs.Common.{◌≡◌, ◌<◌, ◌≤◌, ◌+◌, ◌^◌, ℕ, zero, suc, Bool, true, false, not, List, [], ◌∷◌, ◌++◌, length, get_or, set, take, refl, sym, ap, ◌∙◌, arith, inl, inr, cond}
use Rattle.std.specs.Prelude.{◌==◌, ◌||◌, ◌&&◌, Some, None, Option, if◌then◌else◌, count_by, sum_by}
use Rattle.std.specs.List.{list_any, filter, range_with_len}
use Rattle.std.proofs.lemmas.Bool.{cases_eq, eq-eqb}
use Rattle.std.proofs.lemmas.List.{length-set, get_or-set_same, get_or-set_other, take_more}
use Rattle.std.proofs.lemmas.List.Folds.{list_any_more}
use Rattle.std.proofs.lemmas.List.FromFn.{length-range_with_len}
use Rattle.std.proofs.lemmas.List.Sums.{sum_by-cons, sum_by_push, length-filter, count_by-le-length}
use Rattle.id_arena.specs.declared.keys.ChipId.{ChipId}
use Rattle.design_core.specs.declared.parts.Parts.{Parts}
use Rattle.design_core.specs.Design.{net_count}
use Rattle.gain_place.specs.Homes.{chip_at, elements, is_reader, is_source, reads, source, touches}
use Rattle.gain_place.specs.Cut.{chip_numbers, crossings, cut, readers_away}
use Rattle.gain_place.specs.Tables.{loads_of}
use Rattle.gain_place.specs.Spans.{cut_to, is_on, spans, stamp_at, IsSpanned}
use Rattle.gain_place.proofs.Ranges.{differ, no_chip_more, one_chip_more, range_more}

-- ## Counting the chips

module _ (chips : List ChipId) (ks : List ℕ) (stamp long : ℕ) where
  pub none_spanned : (seen : List ℕ) → length seen ≡ long → ((c : ℕ) → stamp_at seen c < stamp) → IsSpanned chips [] stamp long seen 0
  none_spanned seen same fresh = record {
    number = sym no_chips;
    few = omega arith;
    same = same;
    marks = λ c. differ (stamp_at seen c) stamp (let h = fresh c in λ e. omega arith);
    stamps = λ c. let h = fresh c in omega arith;
  }
    where
      none_of : (xs : List ℕ) → count_by (λ c. false) xs ≡ 0
      none_of [] = refl
      none_of (x ∷ xs) = sum_by-cons (λ (c : ℕ). 0) x xs ∙ ap (λ k. 0 + k) (none_of xs)

      no_chips : count_by (λ c. false) chip_numbers ≡ 0
      no_chips = none_of chip_numbers

  module _ (i : ℕ) (seen : List ℕ) (count : ℕ) (s : IsSpanned chips (take i ks) stamp long seen count) (low : i < length ks) where
    abbrev k : ℕ
    k = get_or ks i 0

    abbrev a : ℕ
    a = chip_at chips k

    on_more : (c : ℕ) → is_on chips (take (i + 1) ks) c ≡ (is_on chips (take i ks) c || (a == c))
    on_more c = list_any_more (λ j. chip_at chips j == c) ks i 0 low

    length_more : length (take (i + 1) ks) ≡ length (take i ks) + 1
    length_more = ap length (take_more ks i 0 low) ∙ pushed (take i ks) k
      where
        pushed : (xs : List ℕ) (x : ℕ) → length (xs ++ x ∷ []) ≡ length xs + 1
        pushed [] x = refl
        pushed (y ∷ ys) x = let h = pushed ys x in omega arith

    more : a < 2 ^ 32 → (b : Bool) → (stamp_at seen a == stamp) ≡ b → (cond b 0 1 ≤ 1) × (count + cond b 0 1 ≡ spans chips (take (i + 1) ks))
    more small true e =
        let again = no_chip_more (is_on chips (take i ks)) a (sym (s.marks a) ∙ e) in
        let all : spans chips (take (i + 1) ks) ≡ count_by (λ c. is_on chips (take i ks) c || (a == c)) chip_numbers
        = ap (λ f. count_by f chip_numbers) (λ j c. on_more c j) in
        let before = s.number in
        (omega arith, omega (arith, again, all, before))
    more small false e =
        let new = one_chip_more (is_on chips (take i ks)) a small (sym (s.marks a) ∙ e) in
        let all : spans chips (take (i + 1) ks) ≡ count_by (λ c. is_on chips (take i ks) c || (a == c)) chip_numbers
        = ap (λ f. count_by f chip_numbers) (λ j c. on_more c j) in
        let before = s.number in
        (omega arith, omega (arith, new, all, before))

    or_true : (b : Bool) → (b || true) ≡ true
    or_true true = refl
    or_true false = refl

    or_false : (b : Bool) → (b || false) ≡ b
    or_false true = refl
    or_false false = refl

    marks : a < length seen → (c : ℕ) → (stamp_at (set seen a stamp) c == stamp) ≡ is_on chips (take (i + 1) ks) c
    marks within c = elim (cases_eq c a) [
      | inl e ↦ ap (λ d. stamp_at (set seen a stamp) d == stamp) e
          ∙ eq-eqb (stamp_at (set seen a stamp) a) stamp (get_or-set_same seen a stamp 0 within)
          ∙ sym (on_more c ∙ ap (λ b. is_on chips (take i ks) c || b) (eq-eqb a c (sym e)) ∙ or_true (is_on chips (take i ks) c))
      | inr apart ↦ ap (λ x. x == stamp) (get_or-set_other seen a c stamp 0 apart) ∙ s.marks c
          ∙ sym (on_more c ∙ ap (λ b. is_on chips (take i ks) c || b) (differ a c (λ e. apart (sym e))) ∙ or_false (is_on chips (take i ks) c))
    ]

    stamps : a < length seen → (c : ℕ) → stamp_at (set seen a stamp) c ≤ stamp
    stamps within c = elim (cases_eq c a) [
      | inl e ↦
          let here : stamp_at (set seen a stamp) c ≡ stamp = ap (stamp_at (set seen a stamp)) e ∙ get_or-set_same seen a stamp 0 within in
          omega arith
      | inr apart ↦
          let there : stamp_at (set seen a stamp) c ≡ stamp_at seen c = get_or-set_other seen a c stamp 0 apart in
          let h = s.stamps c in
          omega arith
    ]

    pub one_spanned : a < length seen → a < 2 ^ 32 → (n : ℕ) → n ≡ (if stamp_at seen a == stamp then 0 else 1)
        → IsSpanned chips (take (i + 1) ks) stamp long (set seen a stamp) (count + n)
    one_spanned within small n is =
        let m = more small (stamp_at seen a == stamp) refl in
        record {
          number = ap (λ x. count + x) is ∙ m.1;
          few = let f = s.few in let one = m.0 in omega (arith, length_more, is);
          same = length-set seen a stamp ∙ s.same;
          marks = marks within;
          stamps = stamps within;
        }

-- ## The readers of a net

module _ (p : Parts) (chips : List ChipId) where
  -- a chip has an element at the net where it is the chip of its source or reads it
  on_loads : (n h c : ℕ) → source p n ≡ Some h → h < length p.elements
      → is_on chips (loads_of p n) c ≡ ((is_reader p chips n c && not (chip_at chips h == c)) || (chip_at chips h == c))
  on_loads n h c e low =
      filtered (elements p) ∙ split (elements p) ∙ ap (λ b. b || is_reader p chips n c) (one_source h 0 (length p.elements) (omega arith) (omega arith))
      ∙ turned (chip_at chips h == c) (is_reader p chips n c)
    where
      turned : (x y : Bool) → (x || y) ≡ ((y && not x) || x)
      turned true true = refl
      turned true false = refl
      turned false true = refl
      turned false false = refl

      one_filtered : (x y rest : Bool) → (cond x (y || rest) rest) ≡ ((x && y) || rest)
      one_filtered true y rest = refl
      one_filtered false y rest = refl

      filtered : (ks : List ℕ) → is_on chips (filter (touches p n) ks) c ≡ list_any (λ k. touches p n k && (chip_at chips k == c)) ks
      filtered [] = refl
      filtered (k ∷ ks) = go (touches p n k) ∙ ap (λ b. (touches p n k && (chip_at chips k == c)) || b) (filtered ks)
        where
          go : (b : Bool) → is_on chips (cond b (k ∷ filter (touches p n) ks) (filter (touches p n) ks)) c ≡ ((b && (chip_at chips k == c)) || is_on chips (filter (touches p n) ks) c)
          go true = refl
          go false = refl

      arranged : (x y z u v : Bool) → (((x || y) && z) || (u || v)) ≡ (((x && z) || u) || ((z && y) || v))
      arranged true true true u v = refl
      arranged true true false u v = refl
      arranged true false true u v = refl
      arranged true false false u v = refl
      arranged false true true true v = refl
      arranged false true true false v = refl
      arranged false true false u v = refl
      arranged false false true u v = refl
      arranged false false false u v = refl

      split : (ks : List ℕ) → list_any (λ k. touches p n k && (chip_at chips k == c)) ks
          ≡ (list_any (λ k. is_source (source p n) k && (chip_at chips k == c)) ks || list_any (λ k. (chip_at chips k == c) && reads p n k) ks)
      split [] = refl
      split (k ∷ ks) =
          ap (λ b. (touches p n k && (chip_at chips k == c)) || b) (split ks)
          ∙ arranged (is_source (source p n) k) (reads p n k) (chip_at chips k == c)
          (list_any (λ k. is_source (source p n) k && (chip_at chips k == c)) ks) (list_any (λ k. (chip_at chips k == c) && reads p n k) ks)

      is_h : (k : ℕ) → is_source (source p n) k ≡ (h == k)
      is_h k = ap (λ o. is_source o k) e

      -- past the source there is no other
      no_source : (h s m : ℕ) → h < s → list_any (λ k. (h == k) && (chip_at chips k == c)) (range_with_len s m) ≡ false
      no_source h s zero below = refl
      no_source h s (suc m) below =
          ap (λ b. (b && (chip_at chips s == c)) || list_any (λ k. (h == k) && (chip_at chips k == c)) (range_with_len (s + 1) m)) (differ h s (λ q. omega arith))
          ∙ no_source h (s + 1) m (omega arith)

      or_false : (b : Bool) → (b || false) ≡ b
      or_false true = refl
      or_false false = refl

      found_source : (h s m : ℕ) → s ≤ h → h < s + m → list_any (λ k. (h == k) && (chip_at chips k == c)) (range_with_len s m) ≡ (chip_at chips h == c)
      found_source h s zero from to = absurd (omega arith)
      found_source h s (suc m) from to = elim (cases_eq h s) [
        | inl q ↦
            ap (λ b. (b && (chip_at chips s == c)) || list_any (λ k. (h == k) && (chip_at chips k == c)) (range_with_len (s + 1) m)) (eq-eqb h s q)
            ∙ ap (λ b. (chip_at chips s == c) || b) (no_source h (s + 1) m (omega arith))
            ∙ or_false (chip_at chips s == c) ∙ ap (λ k. chip_at chips k == c) (sym q)
        | inr apart ↦
            ap (λ b. (b && (chip_at chips s == c)) || list_any (λ k. (h == k) && (chip_at chips k == c)) (range_with_len (s + 1) m)) (differ h s apart)
            ∙ found_source h (s + 1) m (omega arith) (omega arith)
      ]

      one_source : (h2 s m : ℕ) → s ≤ h → h < s + m → list_any (λ k. is_source (source p n) k && (chip_at chips k == c)) (range_with_len s m) ≡ (chip_at chips h == c)
      one_source h2 s m from to =
          ap (λ f. list_any f (range_with_len s m)) (λ j k. is_h k j && (chip_at chips k == c)) ∙ found_source h s m from to

  -- the readers of a net away from home are the chips of its loads, less one
  pub spans_home : (n h : ℕ) → source p n ≡ Some h → h < length p.elements → chip_at chips h < 2 ^ 32
      → spans chips (loads_of p n) ≡ crossings p chips n + 1
  spans_home n h e low small =
      ap (λ f. count_by f chip_numbers) (λ j c. on_loads n h c e low j)
      ∙ one_chip_more (λ c. is_reader p chips n c && not (chip_at chips h == c)) (chip_at chips h) small
      (ap (λ b. is_reader p chips n (chip_at chips h) && not b) (eq-eqb (chip_at chips h) (chip_at chips h) refl) ∙ and_false (is_reader p chips n (chip_at chips h)))
      ∙ ap (λ x. x + 1) (sym here)
    where
      and_false : (b : Bool) → (b && false) ≡ false
      and_false true = refl
      and_false false = refl

      here : crossings p chips n ≡ count_by (λ c. is_reader p chips n c && not (chip_at chips h == c)) chip_numbers
      here = ap (λ (o : Option ℕ). readers_away p chips n (elim o [ None ↦ None | Some k ↦ Some (chip_at chips k) ])) e

  pub crossings_none : (n : ℕ) → source p n ≡ None → crossings p chips n ≡ 0
  crossings_none n e = ap (λ (o : Option ℕ). readers_away p chips n (elim o [ None ↦ None | Some k ↦ Some (chip_at chips k) ])) e

  pub few_loads : (n : ℕ) → length (loads_of p n) ≤ length p.elements
  few_loads n =
      let a = length-filter (touches p n) (elements p) in
      let b = count_by-le-length (touches p n) (elements p) in
      let c = length-range_with_len 0 (length p.elements) in
      omega arith

  pub cut_more : (n : ℕ) → cut_to p chips (n + 1) ≡ cut_to p chips n + crossings p chips n
  cut_more n =
      let next : n + 1 ≡ suc n = omega arith in
      let here : 0 + n ≡ n = omega arith in
      ap (λ k. sum_by (crossings p chips) (range_with_len 0 k)) next
      ∙ ap (sum_by (crossings p chips)) (range_more 0 n ∙ ap (λ k. range_with_len 0 n ++ k ∷ []) here)
      ∙ sum_by_push (crossings p chips) (range_with_len 0 n) n

pub cut_is : (p : Parts) (chips : List ChipId) → cut p chips ≡ cut_to p chips (net_count p)
unfolding cut
cut_is p chips = refl
