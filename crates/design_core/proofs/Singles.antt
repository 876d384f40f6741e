-- When all elements are judged, each memory has one element, or one memory has none.
use Rattle.std.proofs.Common.{◌≡◌, ◌∙◌, ◌+◌, ◌<◌, ℕ, suc, true, false, List, [], ◌∷◌, Option, None, Some, inl, inr, ap, sym, refl, map, take, length, arith}
use Rattle.std.specs.Prelude.{nat_lt, count_by, is_some, option_map, slice_get}
use Rattle.std.specs.List.{enumerate_from, list_all}
use Rattle.std.proofs.lemmas.Bool.{and_from, and_right, cases_lt, ltb-true, false_from_ne_true}
use Rattle.std.proofs.lemmas.List.{length-map, take_all}
use Rattle.std.proofs.lemmas.Option.{slice_get-map, slice_get_past, slice_get_within}
use Rattle.id_arena.specs.declared.keys.ElemId.{ElemId}
use Rattle.design_core.specs.declared.element.Memory.{Memory}
use Rattle.design_core.specs.declared.parts.Parts.{Parts}
use Rattle.design_core.specs.Design.{is_memory}
use Rattle.design_core.specs.Tables.{AreOwners}
use Rattle.design_core.specs.Faults.{AreGood, AreOwned, AreSingle, IsLeastBad, around_good, place_good}
use Rattle.design_core.proofs.Goodness.{all_numbered, every_from}
use Rattle.design_core.proofs.Outwards.{found_at}

-- the count of all elements that are this memory
whole_count : (p : Parts) (m c : ℕ) → count_by (is_memory m) (take (length p.elements) p.elements) ≡ c → count_by (is_memory m) p.elements ≡ c
whole_count p m c is = ap (count_by (is_memory m)) (sym (take_all (length p.elements) p.elements (omega arith))) ∙ is

module _ (p : Parts) (found : List (Option ElemId)) (owned : AreOwned p (length p.elements) found) where
  module _ (owners : List ElemId) (all : map Some owners ≡ found) where
    same_size : length owners ≡ length p.memories
    same_size = sym (length-map owners Some) ∙ ap length all ∙ owned.size

    owner_at : (m : ℕ) (e : ElemId) → slice_get owners m ≡ Some e → slice_get found m ≡ Some (Some e)
    owner_at m e here = ap (λ l. slice_get l m) (sym all) ∙ slice_get-map Some owners m ∙ ap (option_map Some) here

    pub are_owners : AreOwners p owners
    are_owners = record {
      count = same_size;
      each = λ m e here. (owned.each m (Some e) (owner_at m e here)).1;
    }

    pub are_single : AreSingle p
    are_single m within =
        let one = found_at owners m (omega (arith, within, same_size)) in
        whole_count p m 1 (owned.each m (Some one.0) (owner_at m one.0 one.1)).0

    memories_owned : list_all (λ (x : ℕ × Memory). nat_lt 0 (count_by (is_memory x.0) p.elements)) (enumerate_from 0 p.memories) ≡ true
    memories_owned =
        all_numbered (λ (x : ℕ × Memory). nat_lt 0 (count_by (is_memory x.0) p.elements)) 0 p.memories (λ k memory here.
        let none : 0 + k ≡ k = omega arith in
        let one = are_single k (slice_get_within p.memories k memory here) in
        rw (none, one) refl)

    pub are_good : around_good p ≡ true → ((k : ℕ) → k < length p.elements → place_good p k ≡ true) → AreGood p
    are_good around good k = elim (cases_lt k (length p.elements)) [
      | inl within ↦ good k within
      | inr past ↦ rw (slice_get_past p.elements k past) (and_from (around_good p) (list_all (λ (x : ℕ × Memory). nat_lt 0 (count_by (is_memory x.0) p.elements)) (enumerate_from 0 p.memories)) around memories_owned)
    ]

  -- an entry without an element
  unowned : (owners : List (Option ElemId)) → list_all is_some owners ≡ false → (m : ℕ) × (slice_get owners m ≡ Some None)
  unowned [] none = absurd (cc)
  unowned (None ∷ owners) none = (0, refl)
  unowned (Some e ∷ owners) none = let rest = unowned owners none in (suc rest.0, rest.1)

  pub rest_bad : (rest : ℕ) → rest ≡ length p.elements → list_all is_some found ≡ false → ((k : ℕ) → k < length p.elements → place_good p k ≡ true) → IsLeastBad p rest
  rest_bad rest is none good =
      let bare = unowned found none in
      let empty = whole_count p bare.0 0 (owned.each bare.0 None bare.1) in
      let within : bare.0 < length p.memories = omega (arith, slice_get_within found bare.0 None bare.1, owned.size) in
      let memory = found_at p.memories bare.0 within in
      let bad : list_all (λ (x : ℕ × Memory). nat_lt 0 (count_by (is_memory x.0) p.elements)) (enumerate_from 0 p.memories) ≡ false =
      false_from_ne_true _ (λ all.
      let start : 0 + bare.0 ≡ bare.0 = omega arith in
      let some = every_from (λ (x : ℕ × Memory). nat_lt 0 (count_by (is_memory x.0) p.elements)) 0 p.memories bare.0 memory.0 all memory.1 in
      let some-2 : nat_lt 0 (count_by (is_memory bare.0) p.elements) ≡ true = rw start at some in
      let some-3 : 0 < count_by (is_memory bare.0) p.elements = ltb-true 0 (count_by (is_memory bare.0) p.elements) some-2 in
      omega (arith, some-3, empty)) in
      rw is (record {
        here = rw (slice_get_past p.elements (length p.elements) (omega arith)) (and_right (around_good p) (list_all (λ (x : ℕ × Memory). nat_lt 0 (count_by (is_memory x.0) p.elements)) (enumerate_from 0 p.memories)) bad);
        earlier = good;
      })
