-- Memories that stand among elements in the order of their numbers: each is one element.
use Rattle.std.proofs.Common.{◌≡◌, ◌+◌, ◌<◌, ◌≤◌, ◌∙◌, ℕ, zero, suc, Bool, true, false, cond, List, [], ◌∷◌, Some, ap, arith, length, refl, slice_get, sym, take}
use Rattle.std.specs.Prelude.{◌==◌, count_by}
use Rattle.std.proofs.lemmas.Bool.Decides.{nat_tests}
use Rattle.std.proofs.lemmas.List.Sums.{sum_by-cons}
use Rattle.std.proofs.lemmas.Option.{none-some, same_Some}
use Rattle.id_arena.specs.declared.keys.MemId.{MemId}
use Rattle.design_core.specs.declared.element.Element.{Element}
use Rattle.design_core.specs.declared.element.Element.TheVariants as element
use Rattle.design_core.specs.Design.{is_memory}
use Rattle.flattening.proofs.GoodPieces.{Takes}

count_cons : (m : ℕ) (e : Element) (es : List Element) → count_by (is_memory m) (e ∷ es) ≡ cond (is_memory m e) 1 0 + count_by (is_memory m) es
count_cons m e es = sum_by-cons (λ (x : Element). cond {A = ℕ} (is_memory m x) 1 0) e es

pub takes_up : (first next : ℕ) (es : List Element) → Takes first es next → first ≤ next
takes_up first next [] t = omega (arith, t)
takes_up first next (element.Gate op inputs output ∷ es) t = takes_up first next es t
takes_up first next (element.Flop f ∷ es) t = takes_up first next es t
takes_up first next (element.Latch l ∷ es) t = takes_up first next es t
takes_up first next (element.Memory m ∷ es) t = let up = takes_up (first + 1) next es t.1 in omega (arith, up)

pub takes_few : (first next : ℕ) (es : List Element) → Takes first es next → next ≤ first + length es
takes_few first next [] t = omega (arith, t)
takes_few first next (element.Gate op inputs output ∷ es) t = let few = takes_few first next es t in omega (arith, few)
takes_few first next (element.Flop f ∷ es) t = let few = takes_few first next es t in omega (arith, few)
takes_few first next (element.Latch l ∷ es) t = let few = takes_few first next es t in omega (arith, few)
takes_few first next (element.Memory m ∷ es) t = let few = takes_few (first + 1) next es t.1 in omega (arith, few)

other_memory : (n m : ℕ) → (m ≡ n → ⊥) → (m == n) ≡ false
other_memory n m apart = grind (arith, nat_tests)

-- a memory at a place is one that comes there, and stands at no earlier place
pub record IsFirst (first next : ℕ) (es : List Element) (k : ℕ) (m : MemId) : Type 0 where
  pub low : first ≤ m.place
  pub high : m.place < next
  pub none : count_by (is_memory m.place) (take k es) ≡ 0

pub taken_once : (first next : ℕ) (es : List Element) (k : ℕ) (m : MemId) → Takes first es next → slice_get es k ≡ Some (element.Memory m) → IsFirst first next es k m
taken_once first next [] k m t at = absurd (none-some (element.Memory m) at)
taken_once first next (element.Gate op inputs output ∷ es) zero m t at = absurd (let clash : element.Gate op inputs output ≡ element.Memory m = same_Some _ _ at in cc)
taken_once first next (element.Flop f ∷ es) zero m t at = absurd (let clash : element.Flop f ≡ element.Memory m = same_Some _ _ at in cc)
taken_once first next (element.Latch l ∷ es) zero m t at = absurd (let clash : element.Latch l ≡ element.Memory m = same_Some _ _ at in cc)
taken_once first next (element.Memory x ∷ es) zero m t at =
    let same : element.Memory x ≡ element.Memory m = same_Some _ _ at in
    let is : x ≡ m = cc in
    let number : m.place ≡ first = ap (λ (y : MemId). y.place) (sym is) ∙ t.0 in
    let up = takes_up (first + 1) next es t.1 in
    record { low = omega (arith, number); high = omega (arith, number, up); none = refl }
taken_once first next (element.Gate op inputs output ∷ es) (suc k) m t at =
    let rest = taken_once first next es k m t at in
    let split = count_cons m.place (element.Gate op inputs output) (take k es) in
    record { low = rest.low; high = rest.high; none = (let none = rest.none in omega (arith, split, none)) }
taken_once first next (element.Flop f ∷ es) (suc k) m t at =
    let rest = taken_once first next es k m t at in
    let split = count_cons m.place (element.Flop f) (take k es) in
    record { low = rest.low; high = rest.high; none = (let none = rest.none in omega (arith, split, none)) }
taken_once first next (element.Latch l ∷ es) (suc k) m t at =
    let rest = taken_once first next es k m t at in
    let split = count_cons m.place (element.Latch l) (take k es) in
    record { low = rest.low; high = rest.high; none = (let none = rest.none in omega (arith, split, none)) }
taken_once first next (element.Memory x ∷ es) (suc k) m t at =
    let rest = taken_once (first + 1) next es k m t.1 at in
    let low = rest.low in
    let number = t.0 in
    let split = count_cons m.place (element.Memory x) (take k es) in
    let other : cond {A = ℕ} (x.place == m.place) 1 0 ≡ 0 = ap (λ b. cond {A = ℕ} b 1 0) (other_memory m.place x.place (λ same. omega (arith, same, low, number))) in
    record { low = omega (arith, low); high = rest.high; none = (let none = rest.none in omega (arith, split, none, other)) }

not_first : (first n m : ℕ) → m ≡ first → first ≤ n → (m == n) ≡ false → first + 1 ≤ n
not_first first n m is low e = grind (arith, nat_tests)

-- each memory that comes is an element
pub some_at : (first next : ℕ) (es : List Element) (n : ℕ) → Takes first es next → first ≤ n → n < next → 0 < count_by (is_memory n) es
some_at first next [] n t low high = absurd (omega (arith, t, low, high))
some_at first next (element.Gate op inputs output ∷ es) n t low high =
    let rest = some_at first next es n t low high in let split = count_cons n (element.Gate op inputs output) es in omega (arith, rest, split)
some_at first next (element.Flop f ∷ es) n t low high =
    let rest = some_at first next es n t low high in let split = count_cons n (element.Flop f) es in omega (arith, rest, split)
some_at first next (element.Latch l ∷ es) n t low high =
    let rest = some_at first next es n t low high in let split = count_cons n (element.Latch l) es in omega (arith, rest, split)
some_at first next (element.Memory m ∷ es) n t low high = go (m.place == n) refl (some_at (first + 1) next es n t.1)
  where
    go : (b : Bool) → (m.place == n) ≡ b → (first + 1 ≤ n → n < next → 0 < count_by (is_memory n) es) → 0 < count_by (is_memory n) (element.Memory m ∷ es)
    go true e deep =
        let split = count_cons n (element.Memory m) es in
        let one : cond {A = ℕ} (m.place == n) 1 0 ≡ 1 = ap (λ b. cond {A = ℕ} b 1 0) e in
        omega (arith, split, one)
    go false e deep =
        let number = t.0 in
        let later : first + 1 ≤ n = not_first first n m.place number low e in
        let rest = deep later high in
        let split = count_cons n (element.Memory m) es in
        omega (arith, split, rest)
