-- The bits of read ports with a clock, and what they take.
use Rattle.std.proofs.Common.{◌≡◌, ◌<◌, ◌≤◌, ◌+◌, ◌⊎◌, inl, inr, ℕ, Bool, true, false, List, [], ◌∷◌, ◌++◌, length, get_or, refl, sym, ap, subst, ◌∙◌, arith, length-append}
use Rattle.std.specs.Prelude.{Some, None, Option, slice_set, slice_get, Contains}
use Rattle.std.proofs.lemmas.Bool.{cases_eq}
use Rattle.std.proofs.lemmas.List.{length-set, get_or-set_same, get_or-set_other, get_or_append_left, get_or_default}
use Rattle.std.proofs.lemmas.List.Elements.{Contains-push, Contains-push_cases}
use Rattle.id_arena.specs.declared.keys.NetId.{NetId}
use Rattle.id_arena.specs.declared.keys.MemId.{MemId}
use Rattle.design_core.specs.declared.parts.Parts.{Parts}
use Rattle.design_core.specs.Design.{net_count, driver}
use Rattle.design_core.specs.Valuation.{Valuation}
use Rattle.facts.proofs.Tests.{no}
use Rattle.settled_model.specs.Clocked.{AreClocked, HasTaken, is_clocked, taken_value}
use Rattle.settled_model.proofs.Ranges.{item_among}

-- ## Which nets they are

-- of the nets below a number, those that are bits of read ports with a clock
pub record AreSome (p : Parts) (count : ℕ) (clocked : List NetId) : Type 0 where
  pub there : (n : NetId) → Contains clocked n → (n.place < net_count p) × (is_clocked p (driver p n.place) ≡ true)
  pub all : (n : NetId) → n.place < count → is_clocked p (driver p n.place) ≡ true → Contains clocked n

pub none_clocked : (p : Parts) → AreSome p 0 []
none_clocked p =
    record {
      there = λ n has. absurd (let low : has.0 < 0 = has.1 in omega arith);
      all = λ n low is. absurd (omega arith);
    }

still_among : (xs : List NetId) (y x : NetId) → Contains xs x → Contains (xs ++ y ∷ []) x
still_among xs y x has =
    let low : has.0 < length xs = has.1 in
    let size : length (xs ++ y ∷ []) ≡ length xs + 1 = length-append xs (y ∷ []) in
    let more : has.0 < length (xs ++ y ∷ []) = omega arith in
    (has.0, more, get_or_append_left xs (y ∷ []) x has.0 low ∙ has.2)

same_net : (n : NetId) (place : ℕ) → n.place ≡ place → n ≡ record { place = place }
same_net n place e = ap (λ (k : ℕ). record { place = k }) e

module _ (p : Parts) (place : ℕ) (clocked : List NetId) (h : AreSome p place clocked) where
  below : (n : NetId) → n.place < place + 1 → (n.place ≡ place) ⊎ (n.place < place)
  below n low = elim (cases_eq n.place place) [
    | inl same ↦ inl same
    | inr differ ↦ inr (omega arith)
  ]

  -- a net that is one of them is added
  pub one_clocked : (net : NetId) (more : List NetId) → net ≡ record { place = place } → place < net_count p → is_clocked p (driver p place) ≡ true → more ≡ clocked ++ net ∷ [] → AreSome p (place + 1) more
  one_clocked net more same small is e =
      subst (AreSome p (place + 1)) (sym e)
      (record {
        there = λ n has. elim (Contains-push_cases clocked net n has) [
          | inl old ↦ h.there n old
          | inr new ↦
              subst (λ (x : NetId). (x.place < net_count p) × (is_clocked p (driver p x.place) ≡ true)) (sym same ∙ new) (small, is)
        ];
        all = λ n low clock. elim (below n low) [
          | inl here ↦ subst (λ (x : NetId). Contains (clocked ++ net ∷ []) x) (same ∙ sym (same_net n place here)) (Contains-push clocked net)
          | inr less ↦ still_among clocked net n (h.all n less clock)
        ];
      })

  -- a net that is none of them is passed over
  pub other_clocked : is_clocked p (driver p place) ≡ false → AreSome p (place + 1) clocked
  other_clocked isnt =
      record {
        there = h.there;
        all = λ n low clock. elim (below n low) [
          | inl here ↦ no (sym isnt ∙ ap (λ (k : ℕ). is_clocked p (driver p k)) (sym here) ∙ clock)
          | inr less ↦ h.all n less clock
        ];
      }

pub all_clocked : (p : Parts) (count : ℕ) (clocked : List NetId) → count ≡ net_count p → AreSome p count clocked → AreClocked p clocked
all_clocked p count clocked e h =
    record { there = h.there; all = λ n small clock. h.all n (subst (λ (k : ℕ). n.place < k) (sym e) small) clock }

-- ## What they take

abbrev pub some_net : NetId
some_net = record { place = 0 }

-- the first of these nets have what they take
pub record AreTaken (p : Parts) (clocked : List NetId) (words : ℕ → ℕ → ℕ) (v : Valuation) (count : ℕ) (before after : List Bool) : Type 0 where
  pub size : length after ≡ length before
  pub taken : (j : ℕ) → j < count → get_or after (get_or clocked j some_net).place false ≡ taken_value p words v (driver p (get_or clocked j some_net).place)
  pub others : (n : ℕ) → is_clocked p (driver p n) ≡ false → get_or after n false ≡ get_or before n false

pub none_taken : (p : Parts) (clocked : List NetId) (words : ℕ → ℕ → ℕ) (v : Valuation) (before : List Bool) → AreTaken p clocked words v 0 before before
none_taken p clocked words v before =
    record { size = refl; taken = λ j low. absurd (omega arith); others = λ n isnt. refl }

module _ (p : Parts) (clocked : List NetId) (a : AreClocked p clocked) where
  pub net_there : (i : ℕ) → i < length clocked → (get_or clocked i some_net).place < net_count p
  net_there i low = (a.there (get_or clocked i some_net) (item_among clocked i some_net low)).0

  module _ (words : ℕ → ℕ → ℕ) (v : Valuation) (i : ℕ) (before now : List Bool) (h : AreTaken p clocked words v i before now) (low : i < length clocked) where
    abbrev net : NetId
    net = get_or clocked i some_net

    pub one_taken : (after : List Bool) (value : Bool) → length before ≡ net_count p → value ≡ taken_value p words v (driver p net.place) → after ≡ slice_set now net.place value
        → AreTaken p clocked words v (i + 1) before after
    one_taken after value size is e =
        subst (AreTaken p clocked words v (i + 1) before) (sym e)
        (record { size = length-set now net.place value ∙ h.size; taken = λ j less. go j less (cases_eq (get_or clocked j some_net).place net.place); others = others })
      where
        within : net.place < length now
        within = let small = net_there i low in omega (arith, h.size)

        go : (j : ℕ) → j < i + 1 → ((get_or clocked j some_net).place ≡ net.place) ⊎ ((get_or clocked j some_net).place ≡ net.place → ⊥)
            → get_or (slice_set now net.place value) (get_or clocked j some_net).place false ≡ taken_value p words v (driver p (get_or clocked j some_net).place)
        go j less (inl same) =
            ap (λ (k : ℕ). get_or (slice_set now net.place value) k false) same
            ∙ get_or-set_same now net.place value false within
            ∙ is
            ∙ ap (λ (k : ℕ). taken_value p words v (driver p k)) (sym same)
        go j less (inr differ) =
            get_or-set_other now net.place (get_or clocked j some_net).place value false differ ∙ h.taken j (earlier (cases_eq j i))
          where
            earlier : (j ≡ i) ⊎ (j ≡ i → ⊥) → j < i
            earlier (inl here) = absurd (differ (ap (λ (k : ℕ). (get_or clocked k some_net).place) here))
            earlier (inr other) = omega arith

        others : (n : ℕ) → is_clocked p (driver p n) ≡ false → get_or (slice_set now net.place value) n false ≡ get_or before n false
        others n isnt =
            get_or-set_other now net.place n value false
            (λ same.
            no (sym isnt ∙ ap (λ (k : ℕ). is_clocked p (driver p k)) same ∙ (a.there net (item_among clocked i some_net low)).1))
            ∙ h.others n isnt

pub all_taken : (p : Parts) (clocked : List NetId) (words : ℕ → ℕ → ℕ) (v : Valuation) (count : ℕ) (before after : List Bool) → (length clocked ≤ count) → AreTaken p clocked words v count before after
    → HasTaken p clocked words v before after
all_taken p clocked words v count before after whole h =
    record {
      size = h.size;
      taken = λ n has.
          let low : has.0 < length clocked = has.1 in
          let less : has.0 < count = omega arith in
          let here : get_or clocked has.0 some_net ≡ n = get_or_default clocked has.0 some_net n low ∙ has.2 in
          subst (λ (x : NetId). get_or after x.place false ≡ taken_value p words v (driver p x.place)) here (h.taken has.0 less);
      others = h.others;
    }
