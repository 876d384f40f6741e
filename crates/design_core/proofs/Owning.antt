-- The table of memories, element by element.
use Rattle.std.proofs.Common.{◌≡◌, ◌∙◌, ◌+◌, ◌<◌, ℕ, zero, suc, true, false, ◌&&◌, List, [], ◌∷◌, Option, None, Some, ap, sym, subst, refl, take, length, get_or, inl, inr, arith}
use Rattle.std.specs.Prelude.{◌==◌, is_none, count_by, slice_get, slice_set}
use Rattle.std.proofs.lemmas.Option.{slice_get-get_or, slice_get_past, slice_get_within, get_or_from_slice_get}
use Rattle.std.proofs.lemmas.List.{length-set}
use Rattle.std.proofs.lemmas.List.Sums.{count_by_more_yes, count_by_more_no}
use Rattle.std.proofs.lemmas.Bool.{cases_lt, cases_eq, and_parts, and_right, eq-eqb, ne_eqb, eqb-true}
use Rattle.design_core.specs.declared.element.Element.{Element}
use Rattle.design_core.specs.declared.element.Element.TheVariants as element
use Rattle.design_core.specs.declared.parts.Parts.{Parts}
use Rattle.id_arena.specs.declared.keys.ElemId.{ElemId}
use Rattle.id_arena.specs.declared.keys.MemId.{MemId}
use Rattle.design_core.specs.Design.{net_count, is_memory, element_reads}
use Rattle.design_core.specs.Faults.{AreOwned, IsOwned, are_there, claimed, element_good, element_outputs, is_free, memory_good, place_good, scope_there, shape_good}

-- an entry is free where no element so far is its memory
free_is : (p : Parts) (k m : ℕ) (owner : Option ElemId) → IsOwned p k m owner → is_none owner ≡ (count_by (is_memory m) (take k p.elements) == 0)
free_is p k m None owned = rw owned refl
free_is p k m (Some e) owned = rw (owned.0) refl

pub fresh_is : (p : Parts) (k m : ℕ) (owners : List (Option ElemId)) → AreOwned p k owners → (is_free owners m && memory_good (net_count p) (slice_get p.memories m)) ≡ ((count_by (is_memory m) (take k p.elements) == 0) && memory_good (net_count p) (slice_get p.memories m))
fresh_is p k m owners owned =
    elim (cases_lt m (length p.memories)) [
      | inl few ↦
          let within : m < length owners = omega (arith, owned.size) in
          let is = free_is p k m (get_or owners m None) (owned.each m (get_or owners m None) (slice_get-get_or owners m None within)) in
          rw is refl
      | inr many ↦
          rw (slice_get_past p.memories m many) (and_right (is_free owners m) false refl ∙ sym (and_right (count_by (is_memory m) (take k p.elements) == 0) false refl))
    ]

pub get-set_other : {X : Type 0} (xs : List X) (i j : ℕ) (y : X) → (j ≡ i → ⊥) → slice_get (slice_set xs i y) j ≡ slice_get xs j
get-set_other [] i j y apart = refl
get-set_other (x ∷ xs) zero zero y apart = absurd (apart refl)
get-set_other (x ∷ xs) zero (suc j) y apart = refl
get-set_other (x ∷ xs) (suc i) zero y apart = refl
get-set_other (x ∷ xs) (suc i) (suc j) y apart = get-set_other xs i j y (λ same. apart (ap suc same))

pub get-set_same : {X : Type 0} (xs : List X) (i : ℕ) (y z : X) → slice_get (slice_set xs i y) i ≡ Some z → y ≡ z
get-set_same [] i y z here = absurd (cc)
get-set_same (x ∷ xs) zero y z here = cc
get-set_same (x ∷ xs) (suc i) y z here = get-set_same xs i y z here

-- one element more, which is not this memory
still : (p : Parts) (k m : ℕ) (owner : Option ElemId) → count_by (is_memory m) (take (k + 1) p.elements) ≡ count_by (is_memory m) (take k p.elements) → IsOwned p k m owner → IsOwned p (k + 1) m owner
still p k m None same owned = same ∙ owned
still p k m (Some e) same owned = (same ∙ owned.0, owned.1)

no_more : (p : Parts) (k m : ℕ) (e : Element) → slice_get p.elements k ≡ Some e → is_memory m e ≡ false → count_by (is_memory m) (take (k + 1) p.elements) ≡ count_by (is_memory m) (take k p.elements)
no_more p k m e here other =
    let item : get_or p.elements k e ≡ e = get_or_from_slice_get p.elements k e e here in
    count_by_more_no (is_memory m) p.elements k e (slice_get_within p.elements k e here) (rw item other)

one_more : (p : Parts) (k m : ℕ) (e : Element) → slice_get p.elements k ≡ Some e → is_memory m e ≡ true → count_by (is_memory m) (take (k + 1) p.elements) ≡ count_by (is_memory m) (take k p.elements) + 1
one_more p k m e here is =
    let item : get_or p.elements k e ≡ e = get_or_from_slice_get p.elements k e e here in
    count_by_more_yes (is_memory m) p.elements k e (slice_get_within p.elements k e here) (rw item is)

-- an element that is no memory leaves the table as it is
others_own : (p : Parts) (k : ℕ) (e : Element) (owners : List (Option ElemId)) → slice_get p.elements k ≡ Some e → ((m : ℕ) → is_memory m e ≡ false) → AreOwned p k owners → AreOwned p (k + 1) owners
others_own p k e owners here other owned = record {
  size = owned.size;
  each = λ m owner at-m. still p k m owner (no_more p k m e here (other m)) (owned.each m owner at-m);
}

-- a memory gets its element
one_owns : (p : Parts) (k : ℕ) (id : MemId) (owners : List (Option ElemId)) → slice_get p.elements k ≡ Some (element.Memory id) → count_by (is_memory id.place) (take k p.elements) ≡ 0 → AreOwned p k owners → AreOwned p (k + 1) (slice_set owners id.place (Some (record { place = k })))
one_owns p k id owners here none owned = record {
  size = length-set owners id.place (Some (record { place = k })) ∙ owned.size;
  each = λ m owner at-m. elim (cases_eq m id.place) [
    | inl same ↦
        let here-m : slice_get (slice_set owners m (Some (record { place = k }))) m ≡ Some owner = subst (λ (i : ℕ). slice_get (slice_set owners i (Some (record { place = k }))) m ≡ Some owner) (sym same) at-m in
        let is : Some (record { place = k }) ≡ owner = get-set_same owners m (Some (record { place = k })) owner here-m in
        let id-is : id ≡ record { place = m } = ap (λ n. record { place = n }) (sym same) in
        let more = one_more p k id.place (element.Memory id) here (eq-eqb id.place id.place refl) in
        rw (← is) (rw same (more ∙ ap (λ n. n + 1) none), rw here (ap (λ i. Some (element.Memory i)) id-is))
    | inr apart ↦
        let other : is_memory m (element.Memory id) ≡ false = ne_eqb id.place m (λ same. apart (sym same)) in
        still p k m owner (no_more p k m (element.Memory id) here other) (owned.each m owner (sym (get-set_other owners id.place m (Some (record { place = k })) apart) ∙ at-m))
  ];
}

-- the table after one more element that has its shape
pub claimed_is : (p : Parts) (k : ℕ) (id : ElemId) (e : Element) (owners : List (Option ElemId)) → slice_get p.elements k ≡ Some e → id ≡ record { place = k } → shape_good p (take k p.elements) e ≡ true → AreOwned p k owners → AreOwned p (k + 1) (claimed id e owners)
claimed_is p k id (element.Gate op inputs output) owners here same good owned = others_own p k (element.Gate op inputs output) owners here (λ m. refl) owned
claimed_is p k id (element.Flop f) owners here same good owned = others_own p k (element.Flop f) owners here (λ m. refl) owned
claimed_is p k id (element.Latch l) owners here same good owned = others_own p k (element.Latch l) owners here (λ m. refl) owned
claimed_is p k id (element.Memory m) owners here same good owned =
    let none : count_by (is_memory m.place) (take k p.elements) ≡ 0 = eqb-true _ _ (and_parts (count_by (is_memory m.place) (take k p.elements) == 0) (memory_good (net_count p) (slice_get p.memories m.place)) good).0 in
    rw same (one_owns p k m owners here none owned)

pub good_here : (p : Parts) (k : ℕ) (e : Element) → slice_get p.elements k ≡ Some e → element_good p (take k p.elements) (slice_get p.paths k) e ≡ true → place_good p k ≡ true
good_here p k e here good = rw here good

pub shape_of : (p : Parts) (earlier : List Element) (path : Option ℕ) (e : Element) → element_good p earlier path e ≡ true → shape_good p earlier e ≡ true
shape_of p earlier path e good =
    let three = and_parts (shape_good p earlier e && are_there (net_count p) (element_reads e) && are_there (net_count p) (element_outputs e)) (scope_there p path) good in
    let two = and_parts (shape_good p earlier e && are_there (net_count p) (element_reads e)) (are_there (net_count p) (element_outputs e)) three.0 in
    (and_parts (shape_good p earlier e) (are_there (net_count p) (element_reads e)) two.0).0

pub one_more_good : (p : Parts) (k : ℕ) → ((j : ℕ) → j < k → place_good p j ≡ true) → place_good p k ≡ true → (j : ℕ) → j < k + 1 → place_good p j ≡ true
one_more_good p k before here j within = elim (cases_eq j k) [
  | inl same ↦ subst (λ i. place_good p i ≡ true) (sym same) here
  | inr apart ↦ before j (omega (arith, within, apart))
]
