-- What a move wins and loses at the nets of its element is what the cut loses and wins.
use Rattle.std.proofs.Common.{◌≡◌, ◌<◌, ◌≤◌, ◌+◌, ◌^◌, ℕ, zero, suc, Bool, true, false, not, List, [], ◌∷◌, length, refl, sym, ap, ◌∙◌, subst, arith, inl, inr, cond}
use Rattle.std.specs.Prelude.{◌==◌, ◌||◌, ◌&&◌, Some, None, Option, is_some, count_by, sum_by, ℤ, pos, ◌-ℤ◌}
use Rattle.std.specs.List.{filter, range_with_len}
use Rattle.std.proofs.lemmas.Bool.{cases_eq, eq-eqb}
use Rattle.std.proofs.lemmas.Option.{slice_get_within, same_Some}
use Rattle.std.proofs.lemmas.List.{get_or-set_same, get_or-set_other}
use Rattle.std.proofs.lemmas.List.Sums.{sum_by-cons}
use Rattle.std.proofs.lemmas.Int.{ints}
use mir.Val.{to_z, of_z}
use mir.Syntax.{w64}
use Rattle.facts.proofs.Counting.{positioned}
use Rattle.facts.proofs.Tests.{no}
use Rattle.history_law.specs.Drivers.{DriverIsElement}
use Rattle.id_arena.specs.declared.keys.ChipId.{ChipId}
use Rattle.design_core.specs.declared.element.Driver.{Driver}
use Rattle.design_core.specs.declared.element.Driver.TheVariants.{Constant, Input, Elem, Read}
use Rattle.design_core.specs.declared.parts.Parts.{Parts}
use Rattle.design_core.specs.Design.{driver, is_memory, net_count}
use Rattle.link_rows.specs.Rows.{has}
use Rattle.gain_place.specs.declared.moves.Move.{Move}
use Rattle.gain_place.specs.Homes.{chip_at, source, source_of, touches}
use Rattle.gain_place.specs.Cut.{chip_numbers, crossings, cut}
use Rattle.gain_place.specs.Gain.{gain, moved}
use Rattle.gain_place.specs.Lists.{at}
use Rattle.gain_place.specs.Tables.{loads_of, nets_of}
use Rattle.gain_place.specs.Spans.{is_lone, is_on, other_on, spans}
use Rattle.gain_place.proofs.Ranges.{differ, has_filter, no_chip_more, one_chip_more}
use Rattle.gain_place.proofs.Spanning.{crossings_none, cut_is, spans_home}

-- an element that is named as the source of a net is there
pub source_there : DriverIsElement → (p : Parts) (n h : ℕ) → source p n ≡ Some h → h < length p.elements
source_there law p n h e = go (driver p n) refl e
  where
    go : (d : Driver) → driver p n ≡ d → source_of p d ≡ Some h → h < length p.elements
    go (Constant b) f g = absurd (let x : None ≡ Some h = g in cc)
    go Input f g = absurd (let x : None ≡ Some h = g in cc)
    go (Elem e) f g =
        let r = law p n e f in
        subst (λ k. k < length p.elements) (same_Some e.place h g) (slice_get_within p.elements e.place r.0 r.1)
    go (Read m port bit) f g =
        let r = positioned (is_memory m.place) p.elements h g in
        slice_get_within p.elements h r.0 r.1

-- one more where a test fails
abbrev bit : Bool → ℕ
bit b = cond b 1 0

-- two sums over numbers that differ by what is counted of those that pass a test
pub traded : (F G : ℕ → ℕ) (A B q : ℕ → Bool) (end : ℕ)
    → ((n : ℕ) → n < end → q n ≡ true → F n + bit (B n) ≡ G n + bit (A n))
    → ((n : ℕ) → n < end → q n ≡ false → F n ≡ G n)
    → (s m : ℕ) → s + m ≤ end
    → sum_by F (range_with_len s m) + count_by B (filter q (range_with_len s m)) ≡ sum_by G (range_with_len s m) + count_by A (filter q (range_with_len s m))
traded F G A B q end passed same s zero below = refl
traded F G A B q end passed same s (suc m) below =
    go (q s) refl (traded F G A B q end passed same (s + 1) m (omega arith))
    (sum_by-cons F s (range_with_len (s + 1) m)) (sum_by-cons G s (range_with_len (s + 1) m))
  where
    ns : List ℕ
    ns = range_with_len (s + 1) m

    fs : List ℕ
    fs = filter q (range_with_len (s + 1) m)

    go : (b : Bool) → q s ≡ b → sum_by F ns + count_by B fs ≡ sum_by G ns + count_by A fs
        → sum_by F (s ∷ ns) ≡ F s + sum_by F ns → sum_by G (s ∷ ns) ≡ G s + sum_by G ns
        → sum_by F (s ∷ ns) + count_by B (cond b (s ∷ fs) fs) ≡ sum_by G (s ∷ ns) + count_by A (cond b (s ∷ fs) fs)
    go true e rest f g =
        let here = passed s (omega arith) e in
        let x : count_by B (s ∷ fs) ≡ bit (B s) + count_by B fs = sum_by-cons (λ n. cond (B n) 1 0) s fs in
        let y : count_by A (s ∷ fs) ≡ bit (A s) + count_by A fs = sum_by-cons (λ n. cond (A n) 1 0) s fs in
        omega (arith, here, x, y, rest, f, g)
    go false e rest f g = let here = same s (omega arith) e in omega (arith, here, rest, f, g)

-- on which chips elements are, by what all but one are on
on_split : (chips after : List ChipId) (k c : ℕ) → ((j : ℕ) → (j ≡ k → ⊥) → chip_at after j ≡ chip_at chips j) → (ks : List ℕ)
    → is_on after ks c ≡ (other_on chips k c ks || (has k ks && (chip_at after k == c)))
on_split chips after k c same [] = refl
on_split chips after k c same (j ∷ ks) = elim (cases_eq j k) [
  | inl e ↦
      ap (λ b. b || is_on after ks c) (ap (λ i. chip_at after i == c) e)
      ∙ ap (λ b. (chip_at after k == c) || b) (on_split chips after k c same ks)
      ∙ here (chip_at after k == c) (other_on chips k c ks) (has k ks)
      ∙ ap (λ b. ((not b && (chip_at chips j == c)) || other_on chips k c ks) || (true && (chip_at after k == c))) (sym (eq-eqb j k e))
      ∙ ap (λ b. ((not (j == k) && (chip_at chips j == c)) || other_on chips k c ks) || (b && (chip_at after k == c))) (sym (ap (λ b. b || has k ks) (eq-eqb k j (sym e))))
  | inr apart ↦
      ap (λ b. b || is_on after ks c) (ap (λ i. i == c) (same j apart))
      ∙ ap (λ b. (chip_at chips j == c) || b) (on_split chips after k c same ks)
      ∙ assoc (chip_at chips j == c) (other_on chips k c ks) (has k ks && (chip_at after k == c))
      ∙ ap (λ b. ((not b && (chip_at chips j == c)) || other_on chips k c ks) || (has k ks && (chip_at after k == c))) (sym (differ j k apart))
      ∙ ap (λ b. ((not (j == k) && (chip_at chips j == c)) || other_on chips k c ks) || ((b || has k ks) && (chip_at after k == c))) (sym (differ k j (λ e. apart (sym e))))
]
  where
    here : (x u v : Bool) → (x || (u || (v && x))) ≡ ((false || u) || (true && x))
    here true true v = refl
    here true false v = refl
    here false true true = refl
    here false true false = refl
    here false false true = refl
    here false false false = refl

    assoc : (x u v : Bool) → (x || (u || v)) ≡ (((true && x) || u) || v)
    assoc true u v = refl
    assoc false u v = refl

module _ (chips after : List ChipId) (k : ℕ) (same : (j : ℕ) → (j ≡ k → ⊥) → chip_at after j ≡ chip_at chips j) (ks : List ℕ) where
  -- the number of chips, where the element is among these
  spans_with : has k ks ≡ true → chip_at after k < 2 ^ 32
      → spans after ks ≡ count_by (λ c. other_on chips k c ks) chip_numbers + bit (not (other_on chips k (chip_at after k) ks))
  spans_with in_it small =
      ap (λ f. count_by f chip_numbers) (λ i c. (on_split chips after k c same ks ∙ ap (λ b. other_on chips k c ks || (b && (chip_at after k == c))) in_it) i)
      ∙ go (other_on chips k (chip_at after k) ks) refl
    where
      go : (b : Bool) → other_on chips k (chip_at after k) ks ≡ b
          → count_by (λ c. other_on chips k c ks || (chip_at after k == c)) chip_numbers ≡ count_by (λ c. other_on chips k c ks) chip_numbers + bit (not b)
      go true e = let h = no_chip_more (λ c. other_on chips k c ks) (chip_at after k) e in omega (arith, h)
      go false e = one_chip_more (λ c. other_on chips k c ks) (chip_at after k) small e

  -- and where it is not
  spans_without : has k ks ≡ false → spans after ks ≡ count_by (λ c. other_on chips k c ks) chip_numbers
  spans_without out =
      ap (λ f. count_by f chip_numbers) (λ i c. (on_split chips after k c same ks ∙ ap (λ b. other_on chips k c ks || (b && (chip_at after k == c))) out ∙ or_false (other_on chips k c ks)) i)
    where
      or_false : (b : Bool) → (b || false) ≡ b
      or_false true = refl
      or_false false = refl

module _ (law : DriverIsElement) (p : Parts) (chips : List ChipId) (m : Move) (table : List (List ℕ)) where
  abbrev k : ℕ
  k = m.elem.place

  module _ (long : length chips ≡ length p.elements) (there : k < length p.elements)
      (small : (j : ℕ) → j < length p.elements → chip_at chips j < 2 ^ 32) (to_small : m.to.place < 2 ^ 32)
      (are : (n : ℕ) → n < net_count p → at table n ≡ loads_of p n) where
    abbrev after : List ChipId
    after = moved chips m

    pub moved_here : chip_at after k ≡ m.to.place
    moved_here = ap (λ (c : ChipId). c.place) (get_or-set_same chips k m.to (record { place = 0 }) (omega (arith, long, there)))

    pub moved_other : (j : ℕ) → (j ≡ k → ⊥) → chip_at after j ≡ chip_at chips j
    moved_other j apart = ap (λ (c : ChipId). c.place) (get_or-set_other chips k j m.to (record { place = 0 }) apart)

    small_after : (j : ℕ) → j < length p.elements → chip_at after j < 2 ^ 32
    small_after j low = elim (cases_eq j k) [
      | inl e ↦ let h : chip_at after j ≡ m.to.place = ap (chip_at after) e ∙ moved_here in omega (arith, to_small, h)
      | inr apart ↦ let h = moved_other j apart in let s = small j low in omega (arith, h, s)
    ]

    at_net : (n : ℕ) → n < net_count p → (o : Option ℕ) → source p n ≡ o → (b : Bool) → has k (loads_of p n) ≡ b
        → crossings p chips n + bit (is_some o && b && is_lone table chips k m.to.place n)
        ≡ crossings p after n + bit (is_some o && b && is_lone table chips k (chip_at chips k) n)
    at_net n low None e b f =
        let x = crossings_none p chips n e in
        let y = crossings_none p after n e in
        omega (arith, x, y)
    at_net n low (Some h) e true f =
        let h_there = source_there law p n h e in
        let x = spans_home p chips n h e h_there (small h h_there) in
        let y = spans_home p after n h e h_there (small_after h h_there) in
        let u = spans_with chips chips k (λ j apart. refl) (loads_of p n) f (small k there) in
        let v = spans_with chips after k moved_other (loads_of p n) f (small_after k there)
        ∙ ap (λ c. count_by (λ c. other_on chips k c (loads_of p n)) chip_numbers + bit (not (other_on chips k c (loads_of p n)))) moved_here in
        let from : bit (is_lone table chips k (chip_at chips k) n) ≡ bit (not (other_on chips k (chip_at chips k) (loads_of p n)))
        = ap (λ ks. bit (not (other_on chips k (chip_at chips k) ks))) (are n low) in
        let to : bit (is_lone table chips k m.to.place n) ≡ bit (not (other_on chips k m.to.place (loads_of p n)))
        = ap (λ ks. bit (not (other_on chips k m.to.place ks))) (are n low) in
        omega (arith, x, y, u, v, from, to)
    at_net n low (Some h) e false f =
        let h_there = source_there law p n h e in
        let x = spans_home p chips n h e h_there (small h h_there) in
        let y = spans_home p after n h e h_there (small_after h h_there) in
        let u = spans_without chips chips k (λ j apart. refl) (loads_of p n) f in
        let v = spans_without chips after k moved_other (loads_of p n) f in
        omega (arith, x, y, u, v)

    -- the cut before and after the move
    pub cuts : cut p chips + count_by (is_lone table chips k m.to.place) (nets_of p k)
        ≡ cut p after + count_by (is_lone table chips k (chip_at chips k)) (nets_of p k)
    cuts =
        ap (λ x. x + count_by (is_lone table chips k m.to.place) (nets_of p k)) (cut_is p chips)
        ∙ traded (crossings p chips) (crossings p after) (is_lone table chips k (chip_at chips k)) (is_lone table chips k m.to.place)
        (λ n. is_some (source p n) && touches p n k) (net_count p) passes fails 0 (net_count p) (omega arith)
        ∙ ap (λ x. x + count_by (is_lone table chips k (chip_at chips k)) (nets_of p k)) (sym (cut_is p after))
      where
        here : (n : ℕ) → has k (loads_of p n) ≡ touches p n k
        here n = has_filter (touches p n) k (length p.elements) there

        passes : (n : ℕ) → n < net_count p → (is_some (source p n) && touches p n k) ≡ true
            → crossings p chips n + bit (is_lone table chips k m.to.place n) ≡ crossings p after n + bit (is_lone table chips k (chip_at chips k) n)
        passes n low f =
            subst (λ (b : Bool). crossings p chips n + bit (b && is_lone table chips k m.to.place n) ≡ crossings p after n + bit (b && is_lone table chips k (chip_at chips k) n))
            f (arranged (is_some (source p n)) (touches p n k) (at_net n low (source p n) refl (touches p n k) (here n)))
          where
            arranged : (x y : Bool)
                → crossings p chips n + bit (x && y && is_lone table chips k m.to.place n) ≡ crossings p after n + bit (x && y && is_lone table chips k (chip_at chips k) n)
                → crossings p chips n + bit ((x && y) && is_lone table chips k m.to.place n) ≡ crossings p after n + bit ((x && y) && is_lone table chips k (chip_at chips k) n)
            arranged true y h = h
            arranged false y h = h

        fails : (n : ℕ) → n < net_count p → (is_some (source p n) && touches p n k) ≡ false → crossings p chips n ≡ crossings p after n
        fails n low f = go (is_some (source p n)) (touches p n k) f (at_net n low (source p n) refl (touches p n k) (here n))
          where
            go : (x y : Bool) → (x && y) ≡ false
                → crossings p chips n + bit (x && y && is_lone table chips k m.to.place n) ≡ crossings p after n + bit (x && y && is_lone table chips k (chip_at chips k) n)
                → crossings p chips n ≡ crossings p after n
            go true true g h = no (sym g)
            go true false g h = omega (arith, h)
            go false y g h = omega (arith, h)

-- the gain is what the cut loses
pub gain_is : (p : Parts) (chips : List ChipId) (m : Move) (won lost : ℕ) → cut p chips + lost ≡ cut p (moved chips m) + won
    → pos won -ℤ pos lost ≡ gain p chips m
unfolding gain
gain_is p chips m won lost e = omega (arith, ints)

-- the gain as it is computed
pub told : (a b g : ℤ) (won lost : ℕ) → a ≡ pos won → b ≡ pos lost → won < 2 ^ 32 → lost < 2 ^ 32 → pos won -ℤ pos lost ≡ g
    → to_z w64 (of_z w64 (to_z w64 (of_z w64 a) -ℤ to_z w64 (of_z w64 b))) ≡ g
told a b g won lost e f x y h = omega (arith, ints)
