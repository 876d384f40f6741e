-- A design has one first placement on a board, or one element that finds no chip.
use Rattle.std.proofs.Common.{◌≡◌, ◌≢◌, ◌<◌, ◌≤◌, ◌+◌, ℕ, zero, suc, List, length, get_or, take, refl, sym, ap, ◌∙◌, subst, arith, inl, inr}
use Rattle.std.specs.Prelude.{Some, Result, Ok, Err, slice_get}
use Rattle.std.proofs.lemmas.Bool.{cases_order}
use Rattle.std.proofs.lemmas.List.{take_more_same}
use Rattle.std.proofs.Math.Seq.{take-length}
use Rattle.std.proofs.lemmas.Option.{slice_get_within, slice_get-get_or}
use Rattle.id_arena.specs.declared.keys.ChipId.{ChipId}
use Rattle.design_core.specs.declared.element.Element.{Element}
use Rattle.design_core.specs.declared.element.Element.TheVariants as element
use Rattle.design_core.specs.declared.parts.Parts.{Parts}
use Rattle.design_core.specs.Weight.{weight}
use Rattle.seed_place.specs.declared.fault.SeedFault.{SeedFault}
use Rattle.seed_place.specs.declared.fault.SeedFault.TheVariants.{NoRoom, NoMemory}
use Rattle.seed_place.specs.Seed.{IsFirstWithRoom, IsFirstPlacement, FindsNoChip, Answers, EachDesignHasOneSeed}

module _ (p : Parts) (rooms : List ℕ) where
  one_first : (chips : List ChipId) (w c d : ℕ) → IsFirstWithRoom p rooms chips w c → IsFirstWithRoom p rooms chips w d → c ≡ d
  one_first chips w c d f g = elim (cases_order c d) [
    | inl e ↦ e
    | inr (inl less) ↦ let full = g.full c less in let fits = f.fits in absurd (omega arith)
    | inr (inr less) ↦ let full = f.full d less in let fits = g.fits in absurd (omega arith)
  ]

  -- no first placement goes on beyond an element that finds no chip
  no_more : (chips : List ChipId) (k : ℕ) → IsFirstPlacement p rooms chips → (n : FindsNoChip p rooms k) → take k chips ≡ n.chips → k < length chips → ⊥
  no_more chips k is n same below =
      let chip : ChipId = get_or chips k (record { place = 0 }) in
      let at : slice_get chips k ≡ Some chip = slice_get-get_or chips k (record { place = 0 }) below in
      let f : IsFirstWithRoom p rooms (take k chips) (weight p n.element) chip.place = is.first k n.element chip n.here at in
      let g : IsFirstWithRoom p rooms n.chips (weight p n.element) chip.place
      = subst (λ (cs : List ChipId). IsFirstWithRoom p rooms cs (weight p n.element) chip.place) same f in
      let full = n.full chip.place g.there in
      let fits = g.fits in
      omega arith

  -- two first placements agree as far as both go
  agree : (a b : List ChipId) → IsFirstPlacement p rooms a → IsFirstPlacement p rooms b
      → (k : ℕ) → k ≤ length a → k ≤ length b → take k a ≡ take k b
  agree a b is so zero x y = refl
  agree a b is so (suc k) x y =
      let before : take k a ≡ take k b = agree a b is so k (omega arith) (omega arith) in
      let none : ChipId = record { place = 0 } in
      let few = is.few in
      let e : Element = get_or p.elements k (element.Memory (record { place = 0 })) in
      let here : slice_get p.elements k ≡ Some e = slice_get-get_or p.elements k (element.Memory (record { place = 0 })) (omega arith) in
      let f : IsFirstWithRoom p rooms (take k a) (weight p e) (get_or a k none).place
      = is.first k e (get_or a k none) here (slice_get-get_or a k none (omega arith)) in
      let g : IsFirstWithRoom p rooms (take k b) (weight p e) (get_or b k none).place
      = so.first k e (get_or b k none) here (slice_get-get_or b k none (omega arith)) in
      let h : IsFirstWithRoom p rooms (take k a) (weight p e) (get_or b k none).place
      = subst (λ (cs : List ChipId). IsFirstWithRoom p rooms cs (weight p e) (get_or b k none).place) (sym before) g in
      let same : (get_or a k none).place ≡ (get_or b k none).place = one_first (take k a) (weight p e) (get_or a k none).place (get_or b k none).place f h in
      let chips : get_or a k none ≡ get_or b k none = ap (λ (n : ℕ). record { place = n }) same in
      let next : k + 1 ≡ suc k = omega arith in
      subst (λ (n : ℕ). take n a ≡ take n b) next
      (take_more_same a b k none (omega arith) (omega arith) before chips)

  all_same : (a b : List ChipId) → IsFirstPlacement p rooms a → IsFirstPlacement p rooms b → length a ≡ length b → a ≡ b
  all_same a b is so long =
      sym (take-length a) ∙ agree a b is so (length a) (omega arith) (omega arith)
      ∙ ap (λ (n : ℕ). take n b) long ∙ take-length b

  -- a first placement is no longer than the element that finds no chip tells
  ends : (a : List ChipId) (k : ℕ) → IsFirstPlacement p rooms a → FindsNoChip p rooms k → k < length a → ⊥
  ends a k is n below =
      let before = n.before in
      let same : take k a ≡ n.chips
      = agree a n.chips is n.placed k (omega arith) (omega arith) ∙ ap (λ (j : ℕ). take j n.chips) (sym before) ∙ take-length n.chips in
      no_more a k is n same below

  not_all : (a : List ChipId) (k : ℕ) → IsFirstPlacement p rooms a → length a ≡ length p.elements → FindsNoChip p rooms k → ⊥
  not_all a k is all n = ends a k is n (let h = slice_get_within p.elements k n.element n.here in omega arith)

  one_fault : (j k : ℕ) → FindsNoChip p rooms j → FindsNoChip p rooms k → j ≡ k
  one_fault j k m n = elim (cases_order j k) [
    | inl e ↦ e
    | inr (inl less) ↦ absurd (ends n.chips j n.placed m (let e = n.before in omega arith))
    | inr (inr less) ↦ absurd (ends m.chips k m.placed n (let e = m.before in omega arith))
  ]

  answers_are_same : (first second : Result (List ChipId) SeedFault) → first ≢ Err NoMemory → second ≢ Err NoMemory
      → Answers p rooms first → Answers p rooms second → first ≡ second
  answers_are_same (Ok a) (Ok b) x y is so = ap Ok (all_same a b is.0 so.0 (is.1 ∙ sym so.1))
  answers_are_same (Ok a) (Err (NoRoom elem)) x y is so = absurd (not_all a elem.place is.0 is.1 so)
  answers_are_same (Err (NoRoom elem)) (Ok b) x y is so = absurd (not_all b elem.place so.0 so.1 is)
  answers_are_same (Err (NoRoom j)) (Err (NoRoom k)) x y is so =
      ap (λ (n : ℕ). Err (NoRoom (record { place = n }))) (one_fault j.place k.place is so)
  answers_are_same (Err NoMemory) second x y is so = absurd (x refl)
  answers_are_same (Ok a) (Err NoMemory) x y is so = absurd (y refl)
  answers_are_same (Err (NoRoom elem)) (Err NoMemory) x y is so = absurd (y refl)

pub one_seed : EachDesignHasOneSeed
one_seed = answers_are_same
