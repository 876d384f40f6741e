-- Tables in which each number stands in the lists of its heads, as they are filled, and what they come to.
use Rattle.std.proofs.Common.{◌≡◌, ◌<◌, ◌≤◌, ◌+◌, ℕ, zero, suc, Bool, true, false, List, [], ◌∷◌, ◌++◌, length, get_or, map, refl, sym, ap, ◌∙◌, subst, arith, inl, inr}
use Rattle.std.specs.Prelude.{◌==◌, ◌||◌, ◌&&◌, ◌⊎◌, Some, None, Option, All, is_some, if◌then◌else◌, flat_map, option_map, option_to_list, unwrap_or, slice_get}
use Rattle.std.specs.List.{list_any, filter}
use Rattle.std.proofs.lemmas.Bool.{cases_eq, eq-eqb}
use Rattle.std.proofs.lemmas.Option.{none-some, same_Some, slice_get-get_or}
use Rattle.std.proofs.lemmas.List.Folds.{list_any-append}
use Rattle.std.proofs.lemmas.List.FromFn.{length-range_with_len}
use Rattle.std.proofs.lemmas.List.Sums.{length-filter, count_by-le-length}
use Rattle.facts.proofs.Tests.{no, either}
use Rattle.id_arena.specs.declared.keys.NetId.{NetId}
use Rattle.design_core.specs.declared.element.Element.{Element}
use Rattle.design_core.specs.declared.element.Element.TheVariants as element
use Rattle.design_core.specs.declared.element.Memory.{Memory}
use Rattle.design_core.specs.declared.parts.Parts.{Parts}
use Rattle.design_core.specs.Design.{IsDesign, element_reads, includes, memory_reads, net_count, nets_read, port_bits}
use Rattle.link_rows.specs.Rows.{has}
use Rattle.gain_place.specs.Homes.{elements, is_source, nets, pins, pins_at, reads, source, touches}
use Rattle.gain_place.specs.Lists.{at, is_last, put_if, HasUnder}
use Rattle.gain_place.specs.Tables.{AreDriven, AreLoads, AreNetLoads, AreNets, NetLoads, Stand, driven_of, homed_loads, loads_of, nets_of, touched}
use Rattle.gain_place.proofs.Ranges.{at_stands, differ, filter_more, has_filter, has_filter_within, not_last}

-- ## Filling

module _ (heads : ℕ → List ℕ) (lists n : ℕ) (table : List (List ℕ)) (s : Stand heads lists n table) where
  pub stand_fresh : (j : ℕ) → is_last n (at table j) ≡ false
  stand_fresh j = ap (is_last n) (s.each j) ∙ not_last (λ i. has j (heads i)) n

  pub stand_more : (new : List (List ℕ)) → HasUnder (heads n) n table new → Stand heads lists (n + 1) new
  stand_more new u = record {
    count = u.count ∙ s.count;
    each = λ j. u.each j ∙ ap (put_if (has j (heads n)) n) (s.each j) ∙ sym (filter_more (λ i. has j (heads i)) n);
  }

-- what stands in a list is below a bound
pub all_below : (xs : List ℕ) (bound : ℕ) → ((n : ℕ) → has n xs ≡ true → n < bound) → All (λ n. n < bound) xs
all_below xs bound h k d low = h (get_or xs k d) (at_stands (get_or xs k d) xs k (slice_get-get_or xs k d low))

pub heads_in : (xs ys : List ℕ) (a b : ℕ) → xs ≡ ys → All (λ n. n < a) ys → b ≡ a → All (λ n. n < b) xs
heads_in xs ys a b e h f = subst (λ (zs : List ℕ). All (λ n. n < b) zs) (sym e) (subst (λ (c : ℕ). All (λ n. n < c) ys) (sym f) h)

equal_turned : (a b : ℕ) → (a == b) ≡ (b == a)
equal_turned a b = elim (cases_eq a b) [
  | inl e ↦ eq-eqb a b e ∙ sym (eq-eqb b a (sym e))
  | inr apart ↦ differ a b apart ∙ sym (differ b a (λ e. apart (sym e)))
]

or_turned : (a b : Bool) → (a || b) ≡ (b || a)
or_turned true true = refl
or_turned true false = refl
or_turned false true = refl
or_turned false false = refl

pub has_includes : (n : ℕ) (ns : List NetId) → has n (map (λ (m : NetId). m.place) ns) ≡ includes ns n
has_includes n [] = refl
has_includes n (m ∷ ns) = ap (λ b. b || has n (map (λ (m : NetId). m.place) ns)) (equal_turned n m.place) ∙ ap (λ b. (m.place == n) || b) (has_includes n ns)

any_under : {X A : Type 0} (q : A → Bool) (f : X → List A) (xs : List X) (k : ℕ) (x : X) → slice_get xs k ≡ Some x → list_any q (f x) ≡ true
    → list_any q (flat_map f xs) ≡ true
any_under q f [] k x at h = absurd (none-some x at)
any_under q f (y ∷ ys) zero x at h =
    list_any-append q (f y) (flat_map f ys) ∙ ap (λ b. b || list_any q (flat_map f ys)) (ap (λ z. list_any q (f z)) (same_Some y x at) ∙ h)
any_under q f (y ∷ ys) (suc k) x at h =
    list_any-append q (f y) (flat_map f ys) ∙ ap (λ b. list_any q (f y) || b) (any_under q f ys k x at h) ∙ or_turned (list_any q (f y)) true

module _ (p : Parts) where
  -- ## Heads are there

  read_there : IsDesign p → (n : ℕ) → (a b c : List NetId) → nets_read p ≡ (a ++ b) ++ c
      → includes a n ≡ true ⊎ includes b n ≡ true → n < net_count p
  read_there is n a b c e h =
      (is.driven n (ap (λ ns. includes ns n) e ∙ list_any-append (λ m. m.place == n) (a ++ b) c
      ∙ ap (λ q. q || includes c n) (list_any-append (λ m. m.place == n) a b) ∙ go (includes a n) (includes b n) (includes c n) h)).0
    where
      go : (x y z : Bool) → (x ≡ true) ⊎ (y ≡ true) → ((x || y) || z) ≡ true
      go true y z h = refl
      go false true z h = refl
      go false false z (inl h) = no h
      go false false z (inr h) = no h

  pin_there : IsDesign p → (n k : ℕ) → reads p n k ≡ true → n < net_count p
  pin_there is n k h = at_element (slice_get p.elements k) refl h
    where
      here : includes (flat_map element_reads p.elements) n ≡ true ⊎ includes (flat_map memory_reads p.memories) n ≡ true → n < net_count p
      here = read_there is n (flat_map element_reads p.elements) (flat_map memory_reads p.memories) (port_bits p.outputs) refl

      at_memory : (o : Option Memory) (m : ℕ) → slice_get p.memories m ≡ o → includes (unwrap_or (option_map memory_reads o) []) n ≡ true → n < net_count p
      at_memory None m e h = no h
      at_memory (Some memory) m e h = here (inr (any_under (λ m. m.place == n) memory_reads p.memories m memory e h))

      at_element : (o : Option Element) → slice_get p.elements k ≡ o → includes (unwrap_or (option_map (pins p) o) []) n ≡ true → n < net_count p
      at_element None e h = no h
      at_element (Some (element.Gate op inputs output)) e h = here (inl (any_under (λ m. m.place == n) element_reads p.elements k (element.Gate op inputs output) e h))
      at_element (Some (element.Flop f)) e h = here (inl (any_under (λ m. m.place == n) element_reads p.elements k (element.Flop f) e h))
      at_element (Some (element.Latch l)) e h = here (inl (any_under (λ m. m.place == n) element_reads p.elements k (element.Latch l) e h))
      at_element (Some (element.Memory m)) e h = at_memory (slice_get p.memories m.place) m.place refl h

  has_touched : (n k : ℕ) → has n (touched p k) ≡ (reads p n k || has n (driven_of p k))
  has_touched n k =
      list_any-append (λ m. n == m) (map (λ (m : NetId). m.place) (pins_at p k)) (driven_of p k)
      ∙ ap (λ b. b || has n (driven_of p k)) (has_includes n (pins_at p k))

  pub touched_there : IsDesign p → (k : ℕ) → All (λ n. n < net_count p) (touched p k)
  touched_there is k = all_below (touched p k) (net_count p) (λ n h. elim (either (reads p n k) (has n (driven_of p k)) (sym (has_touched n k) ∙ h)) [
    | inl read ↦ pin_there is n k read
    | inr drives ↦ has_filter_within (λ n. is_source (source p n) k) n (net_count p) drives
  ])

  pub loads_there : (n : ℕ) → All (λ k. k < length p.elements) (loads_of p n)
  loads_there n = all_below (loads_of p n) (length p.elements) (λ k h. has_filter_within (touches p n) k (length p.elements) h)

  -- ## What the tables come to

  pub driven_is : (table : List (List ℕ)) → AreDriven p (net_count p) table → (k : ℕ) → at table k ≡ driven_of p k
  driven_is table s k = s.each k ∙ ap (λ q. filter q (nets p)) (λ i n. same (source p n) i)
    where
      or_false : (b : Bool) → (b || false) ≡ b
      or_false true = refl
      or_false false = refl

      same : (o : Option ℕ) → has k (option_to_list o) ≡ is_source o k
      same None = refl
      same (Some h) = or_false (k == h) ∙ equal_turned k h

  pub loads_is : (table : List (List ℕ)) → AreNetLoads p (length p.elements) table → (n : ℕ) → n < net_count p → at table n ≡ loads_of p n
  loads_is table s n low = s.each n ∙ ap (λ q. filter q (elements p)) (λ i k. same k i)
    where
      same : (k : ℕ) → has n (touched p k) ≡ touches p n k
      same k =
          has_touched n k ∙ ap (λ b. reads p n k || b) (has_filter (λ m. is_source (source p m) k) n (net_count p) low)
          ∙ or_turned (reads p n k) (is_source (source p n) k)

  pub nets_is : (table : List (List ℕ)) → AreNets p (net_count p) table → (k : ℕ) → k < length p.elements → at table k ≡ nets_of p k
  nets_is table s k low = s.each k ∙ ap (λ q. filter q (nets p)) (λ i n. same n (is_some (source p n)) i)
    where
      same : (n : ℕ) (b : Bool) → has k (if b then loads_of p n else []) ≡ (b && touches p n k)
      same n true = has_filter (touches p n) k (length p.elements) low
      same n false = refl

  pub loads_are : (driven loads nets : List (List ℕ)) → AreNetLoads p (length p.elements) loads → AreNets p (net_count p) nets
      → AreLoads p (record { loads = loads; nets = nets })
  loads_are driven loads nets l n = record {
    net_number = l.count;
    element_number = n.count;
    loads = loads_is loads l;
    nets = nets_is nets n;
  }

  -- a net without a home stands nowhere, and one with a home at its loads
  pub homed_none : (n : ℕ) (table : List (List ℕ)) → source p n ≡ None → HasUnder (homed_loads p n) n table table
  homed_none n table e =
      subst (λ (heads : List ℕ). HasUnder heads n table table) (sym (ap (λ (o : Option ℕ). if is_some o then loads_of p n else []) e))
      (record { count = refl; each = λ j. refl })

  pub homed_some : (n k : ℕ) → source p n ≡ Some k → homed_loads p n ≡ loads_of p n
  homed_some n k e = ap (λ (o : Option ℕ). if is_some o then loads_of p n else []) e

  -- the tables have an entry for each net and each element
  pub loads_long : (table : List (List ℕ)) (n : ℕ) → AreNetLoads p (length p.elements) table → n < net_count p → n < length table
  loads_long table n s low = subst (λ (k : ℕ). n < k) (sym s.count) low

  pub driven_long : (table : List (List ℕ)) (k : ℕ) → AreDriven p (net_count p) table → k < length p.elements → k < length table
  driven_long table k s low = subst (λ (n : ℕ). k < n) (sym s.count) low

  -- what loads of the design say of the lists that they have
  module _ (l : NetLoads) (are : AreLoads p l) where
    pub element_nets_there : (k : ℕ) → k < length p.elements → (ns : List ℕ) → ns ≡ at l.nets k → All (λ n. n < length l.loads) ns
    element_nets_there k low ns e =
        heads_in ns (nets_of p k) (net_count p) (length l.loads) (e ∙ are.nets k low)
        (all_below (nets_of p k) (net_count p) (λ n h. has_filter_within (λ n. is_some (source p n) && touches p n k) n (net_count p) h)) are.net_number

    pub net_loads_there : (long : ℕ) → long ≡ length p.elements → (n : ℕ) → n < length l.loads → All (λ k. k < long) (at l.loads n)
    net_loads_there long e n low =
        heads_in (at l.loads n) (loads_of p n) (length p.elements) long (are.loads n (let h = are.net_number in omega arith)) (loads_there n) e

    pub few_nets : (k : ℕ) → k < length p.elements → (ns : List ℕ) → ns ≡ at l.nets k → length ns ≤ net_count p
    few_nets k low ns e =
        let same = ap length (e ∙ are.nets k low) in
        let a = length-filter (λ n. is_some (source p n) && touches p n k) (nets p) in
        let b = count_by-le-length (λ n. is_some (source p n) && touches p n k) (nets p) in
        let c = length-range_with_len 0 (net_count p) in
        omega (arith, same, a, b, c)
