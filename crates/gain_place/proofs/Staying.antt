-- A move leaves the gains of elements that share no net with a home with the moved one.
use Rattle.std.proofs.Common.{◌≡◌, ◌<◌, ◌+◌, ◌^◌, ℕ, Bool, true, false, not, List, [], ◌∷◌, length, get_or, map, refl, sym, ap, ◌∙◌, arith, inl, inr, cond}
use Rattle.std.specs.Prelude.{◌==◌, ◌||◌, ◌&&◌, is_some, count_by}
use Rattle.std.specs.List.{list_any, filter, range_with_len}
use Rattle.std.proofs.lemmas.Bool.{cases_eq, eq-eqb}
use Rattle.std.proofs.lemmas.List.{length-set}
use Rattle.std.proofs.lemmas.List.Folds.{list_any_at}
use Rattle.std.proofs.lemmas.List.FromFn.{get_or-map-range_with_len, get_or-range_with_len, length-range_with_len}
use Rattle.facts.proofs.Tests.{no}
use Rattle.history_law.specs.Drivers.{DriverIsElement}
use Rattle.id_arena.specs.declared.keys.ChipId.{ChipId}
use Rattle.design_core.specs.declared.parts.Parts.{Parts}
use Rattle.design_core.specs.Design.{net_count}
use Rattle.link_rows.specs.Rows.{has}
use Rattle.gain_place.specs.declared.moves.Move.{Move}
use Rattle.gain_place.specs.Homes.{chip_at, nets, source, touches}
use Rattle.gain_place.specs.Gain.{gain, moved}
use Rattle.gain_place.specs.Lists.{at}
use Rattle.gain_place.specs.Descent.{OthersKeepTheirGains, shares}
use Rattle.gain_place.specs.Tables.{loads_of, nets_of}
use Rattle.gain_place.specs.Spans.{is_lone, other_on}
use Rattle.gain_place.proofs.Ranges.{has_filter}
use Rattle.gain_place.proofs.Trades.{cuts, gain_is, moved_here, moved_other, traded}

first_not : (x y : Bool) → (x || y) ≡ false → x ≡ false
first_not true y h = h
first_not false y h = refl

second_not : (x y : Bool) → (x || y) ≡ false → y ≡ false
second_not true y h = no (sym h)
second_not false y h = h

apart_of : (j k : ℕ) → (j == k) ≡ false → j ≡ k → ⊥
apart_of j k f e = no (sym f ∙ eq-eqb j k e)

-- tests that agree where another passes count the same
count_same : (P Q q : ℕ → Bool) (end : ℕ) → ((n : ℕ) → n < end → q n ≡ true → P n ≡ Q n)
    → count_by P (filter q (range_with_len 0 end)) ≡ count_by Q (filter q (range_with_len 0 end))
count_same P Q q end h =
    let t = traded (λ n. 0) (λ n. 0) Q P q end (λ n low f. ap (λ b. 0 + cond b 1 0) (h n low f)) (λ n low f. refl) 0 end (omega arith) in
    omega (arith, t)

-- chips that agree at these elements show the same others
same_others : (chips after : List ChipId) (m k c : ℕ) → ((j : ℕ) → (j ≡ m → ⊥) → chip_at after j ≡ chip_at chips j) → (ks : List ℕ) → has m ks ≡ false
    → other_on after k c ks ≡ other_on chips k c ks
same_others chips after m k c same [] out = refl
same_others chips after m k c same (j ∷ ks) out =
    let here : chip_at after j ≡ chip_at chips j = same j (λ e. apart_of m j (first_not (m == j) (has m ks) out) (sym e)) in
    ap (λ x. (not (j == k) && (x == c)) || other_on after k c ks) here
    ∙ ap (λ b. (not (j == k) && (chip_at chips j == c)) || b) (same_others chips after m k c same ks (second_not (m == j) (has m ks) out))

module _ (law : DriverIsElement) (p : Parts) (chips : List ChipId) (m other : Move)
    (long : length chips ≡ length p.elements) (m_there : m.elem.place < length p.elements) (o_there : other.elem.place < length p.elements)
    (small : (j : ℕ) → j < length p.elements → chip_at chips j < 2 ^ 32) (m_small : m.to.place < 2 ^ 32) (o_small : other.to.place < 2 ^ 32)
    (parted : shares p m.elem.place other.elem.place ≡ false) where
  abbrev table : List (List ℕ)
  table = map (loads_of p) (range_with_len 0 (net_count p))

  abbrev after : List ChipId
  after = moved chips m

  abbrev k : ℕ
  k = other.elem.place

  are : (n : ℕ) → n < net_count p → at table n ≡ loads_of p n
  are n low = get_or-map-range_with_len (loads_of p) 0 (net_count p) n n [] low (omega arith)

  here : chip_at after m.elem.place ≡ m.to.place
  here = moved_here law p chips m table long m_there small m_small are

  same : (j : ℕ) → (j ≡ m.elem.place → ⊥) → chip_at after j ≡ chip_at chips j
  same = moved_other law p chips m table long m_there small m_small are

  apart : k ≡ m.elem.place → ⊥
  apart = apart_of k m.elem.place (first_not (k == m.elem.place) (list_any (λ n. is_some (source p n) && (touches p n m.elem.place && touches p n k)) (nets p)) parted)

  small_after : (j : ℕ) → j < length p.elements → chip_at after j < 2 ^ 32
  small_after j low = elim (cases_eq j m.elem.place) [
    | inl e ↦ let h : chip_at after j ≡ m.to.place = ap (chip_at after) e ∙ here in omega (arith, m_small, h)
    | inr far ↦ let h = same j far in let s = small j low in omega (arith, h, s)
  ]

  untouched : (n : ℕ) → n < net_count p → (is_some (source p n) && touches p n k) ≡ true → touches p n m.elem.place ≡ false
  untouched n low q = go (touches p n m.elem.place) refl
    where
      joined : (x y z : Bool) → (x && z) ≡ true → y ≡ true → (x && (y && z)) ≡ true
      joined true true z h e = h
      joined true false z h e = no e
      joined false y z h e = h

      go : (b : Bool) → touches p n m.elem.place ≡ b → touches p n m.elem.place ≡ false
      go false e = e
      go true e =
          let zero_more : 0 + n ≡ n = omega arith in
          let test : ℕ → Bool = λ i. is_some (source p i) && (touches p i m.elem.place && touches p i k) in
          let place : get_or (nets p) n 0 ≡ n = get_or-range_with_len 0 (net_count p) n 0 low ∙ zero_more in
          let within : n < length (nets p) = let l = length-range_with_len 0 (net_count p) in omega (arith, l, low) in
          let passes : test (get_or (nets p) n 0) ≡ true
          = ap test place ∙ joined (is_some (source p n)) (touches p n m.elem.place) (touches p n k) q e in
          no (sym (second_not (k == m.elem.place) (list_any test (nets p)) parted) ∙ list_any_at test (nets p) n 0 within passes)

  lone_same : (c n : ℕ) → n < net_count p → (is_some (source p n) && touches p n k) ≡ true → is_lone table after k c n ≡ is_lone table chips k c n
  lone_same c n low q =
      ap not (same_others chips after m.elem.place k c same (at table n)
      (ap (has m.elem.place) (are n low) ∙ has_filter (touches p n) m.elem.place (length p.elements) m_there ∙ untouched n low q))

  count_lone : (c : ℕ) → count_by (is_lone table after k c) (nets_of p k) ≡ count_by (is_lone table chips k c) (nets_of p k)
  count_lone c = count_same (is_lone table after k c) (is_lone table chips k c) (λ n. is_some (source p n) && touches p n k) (net_count p) (lone_same c)

  pub keeps_gain : gain p after other ≡ gain p chips other
  keeps_gain =
      let won : ℕ = count_by (is_lone table chips k (chip_at chips k)) (nets_of p k) in
      let lost : ℕ = count_by (is_lone table chips k other.to.place) (nets_of p k) in
      let before = cuts law p chips other table long o_there small o_small are in
      let later = cuts law p after other table (length-set chips m.elem.place m.to ∙ long) o_there small_after o_small are in
      let l = count_lone other.to.place in
      let w = ap (λ c. count_by (is_lone table after k c) (nets_of p k)) (same k apart) ∙ count_lone (chip_at chips k) in
      let x = gain_is p chips other won lost before in
      let y = gain_is p after other won lost (omega (arith, later, l, w)) in
      sym y ∙ x

pub others_keep : DriverIsElement → OthersKeepTheirGains
others_keep law p chips m other long a b small x y parted = keeps_gain law p chips m other long a b small x y parted
