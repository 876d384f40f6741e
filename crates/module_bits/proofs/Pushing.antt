-- Items that are put at the end of a list, one by one.
use Rattle.std.proofs.Common.{◌≡◌, ◌+◌, ◌-◌, ◌/◌, ◌%◌, ◌^◌, ◌<◌, ◌≤◌, ℕ, suc, List, [], ◌∷◌, ◌++◌, Some, ap, sym, ◌∙◌, refl, arith, append_assoc, append-nil, drop, get_or, length, length-append, map, replicate, slice_get, slice_range, take}
use Rattle.std.specs.Int.{bit_at}
use Rattle.std.specs.List.{flat_map, range_with_len}
use Rattle.std.proofs.lemmas.Grind.{flat_map-append, replicate_next, take_at_read}
use Rattle.std.proofs.lemmas.List.{drop-append-le, get_or-drop, get_or_append_left, length-drop, take_at}
use Rattle.std.proofs.lemmas.List.FromFn.{map-range_with_len_more}
use Rattle.std.proofs.lemmas.Option.{get_or_from_slice_get}
use Rattle.module_bits.specs.Bits.{net_at, times}
use Rattle.id_arena.specs.declared.keys.NetId.{NetId}
use native.Mathlib.Nat.{div-div-eq-div-mul, pow-suc}

-- the image of the next number
pub pushed_next : {X : Type 0} (f : ℕ → X) (a n : ℕ) (front out new : List X) (x : X) → out ≡ front ++ map f (range_with_len a n) → new ≡ out ++ x ∷ [] → x ≡ f (a + n) → new ≡ front ++ map f (range_with_len a (n + 1))
pushed_next f a n front out new x before pushed is =
    let made = map f (range_with_len a n) in
    pushed
    ∙ ap (λ l. l ++ x ∷ []) before
    ∙ append_assoc front made (x ∷ [])
    ∙ ap (λ l. front ++ l) (ap (λ y. made ++ y ∷ []) is ∙ sym (map-range_with_len_more f a n (a + n) refl))

-- halves of halves
pub half_next : (value rest n : ℕ) → rest ≡ value / 2 ^ n → rest / 2 ≡ value / 2 ^ (n + 1)
half_next value rest n e =
    let add : suc n ≡ n + 1 = omega arith in
    ap (λ r. r / 2) e
    ∙ div-div-eq-div-mul value (2 ^ n) 2
    ∙ ap (λ m. value / m) (sym (pow-suc 2 n) ∙ ap (λ k. 2 ^ k) add)

-- the lowest bit of what is left
pub low_bit : (value rest n : ℕ) (x : NetId) → rest ≡ value / 2 ^ n → x ≡ net_at (rest % 2) → x ≡ net_at (bit_at value (0 + n))
low_bit value rest n x e is =
    let same : n ≡ 0 + n = omega arith in
    is ∙ ap (λ r. net_at (r % 2)) e ∙ ap (λ k. net_at (bit_at value k)) same

-- the next of the items from a place on
pub again_next : {X : Type 0} (front out new : List X) (start end at : ℕ) (x : X) → end ≤ length front → start ≤ at → at < end → out ≡ front ++ slice_range front start at → slice_get out at ≡ Some x → new ≡ out ++ x ∷ [] → new ≡ front ++ slice_range front start (at + 1)
again_next front out new start end at x all from less before here pushed =
    let items = drop start front in
    let k = at - start in
    let inside : at < length front = omega (arith, all, less) in
    let some : k < length items = omega (arith, length-drop start front, all, from, less) in
    let place : start + k ≡ at = omega (arith, from) in
    let next : k + 1 ≡ at + 1 - start = omega (arith, from) in
    let is : x ≡ get_or items k x =
    sym (get_or_from_slice_get out at x x here)
    ∙ ap (λ l. get_or l at x) before
    ∙ get_or_append_left front (take k items) x at inside
    ∙ ap (λ n. get_or front n x) (sym place)
    ∙ sym (get_or-drop start front k x) in
    pushed
    ∙ ap (λ l. l ++ x ∷ []) before
    ∙ append_assoc front (take k items) (x ∷ [])
    ∙ ap (λ l. front ++ l) (ap (λ y. take k items ++ y ∷ []) is ∙ sym (take_at_read items k x some).1 ∙ ap (λ n. take n items) next)

-- the same items once more
times_next : (n : ℕ) (items : List NetId) → times (n + 1) items ≡ times n items ++ items
times_next n items =
    ap (λ l. flat_map (λ part. part) l) (replicate_next n items)
    ∙ flat_map-append (λ part. part) (replicate n items) (items ∷ [])
    ∙ ap (λ l. times n items ++ l) (append-nil items)

pub copies_next : (front out new : List NetId) (start end n : ℕ) → end ≡ length front → start ≤ end → out ≡ front ++ times n (drop start front) → new ≡ out ++ slice_range out start end → new ≡ front ++ times (n + 1) (drop start front)
copies_next front out new start end n all from before pushed =
    let items = drop start front in
    let count = end - start in
    let within : start ≤ length front = omega (arith, all, from) in
    let long : length items ≡ count = omega (arith, length-drop start front, all) in
    let same : take count (drop start out) ≡ items =
    ap (λ l. take count (drop start l)) before
    ∙ ap (λ l. take count l) (drop-append-le start front (times n items) within)
    ∙ take_at items (times n items) count long in
    pushed
    ∙ ap (λ l. out ++ l) same
    ∙ ap (λ l. l ++ items) before
    ∙ append_assoc front (times n items) items
    ∙ ap (λ l. front ++ l) (sym (times_next n items))

-- what is taken again stands in the list
pub copies_within : (front out : List NetId) (start end n : ℕ) → end ≡ length front → out ≡ front ++ times n (drop start front) → end ≤ length out
copies_within front out start end n all before =
    let long : length out ≡ length front + length (times n (drop start front)) = ap (λ l. length l) before ∙ length-append front (times n (drop start front)) in
    omega (arith, all, long)
