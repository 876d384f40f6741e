-- Lists of nets, one after the other, as their numbers.
use Rattle.std.proofs.Common.{◌≡◌, ◌+◌, ℕ, zero, suc, List, [], ◌∷◌, ◌++◌, map, drop, append_assoc, sym, ap, ◌∙◌, arith}
use Rattle.std.specs.Prelude.{Some, flat_map, slice_get}
use Rattle.std.proofs.lemmas.List.{map-append}
use Rattle.std.proofs.lemmas.Option.{none-some, same_Some}
use Rattle.id_arena.specs.declared.keys.NetId.{NetId}

pub ruleset joined = (map-append)

-- one thing more of a list is added
module _ {X : Type 0} (f : X → List NetId) where
  one_passed : (xs : List X) (i : ℕ) → (x : X) → slice_get xs i ≡ Some x → flat_map f (drop i xs) ≡ f x ++ flat_map f (drop (suc i) xs)
  one_passed [] i x at = absurd (none-some x at)
  one_passed (y ∷ ys) zero x at = ap (λ z. f z ++ flat_map f ys) (same_Some y x at)
  one_passed (y ∷ ys) (suc i) x at = one_passed ys i x at

  pub one_added : (g : NetId → ℕ) (row new total : List ℕ) (xs : List X) (i : ℕ) (x : X) → slice_get xs i ≡ Some x → new ≡ row ++ map g (f x)
      → row ++ map g (flat_map f (drop i xs)) ≡ total → new ++ map g (flat_map f (drop (i + 1) xs)) ≡ total
  one_added g row new total xs i x at e rest =
      let others : List NetId = flat_map f (drop (i + 1) xs) in
      let next : suc i ≡ i + 1 = omega arith in
      let passed : flat_map f (drop i xs) ≡ f x ++ others = one_passed xs i x at ∙ ap (λ (k : ℕ). f x ++ flat_map f (drop k xs)) next in
      ap (λ ys. ys ++ map g others) e
      ∙ append_assoc row (map g (f x)) (map g others)
      ∙ ap (λ ys. row ++ ys) (sym (map-append g (f x) others) ∙ ap (map g) (sym passed))
      ∙ rest
