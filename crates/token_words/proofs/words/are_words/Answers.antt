use Rattle.std.proofs.Common.{◌≡◌, ◌+◌, ◌<◌, ℕ, List, Some, length, map, slice_get, take, get_or, arith, rules}
use Rattle.std.proofs.lemmas.List.{map-append, take_more}
use Rattle.std.proofs.lemmas.Option.{get_or_from_slice_get}
use Rattle.token_words.proofs.words.are_words.Goals as goal

-- lists that agree up to a place, and at it, agree up to the next
agree_more : {A B : Type 0} (f : A → B) (xs : List A) (ys : List B) (k : ℕ) (x : A) (y : B) → k < length xs → k < length ys → slice_get xs k ≡ Some x → y ≡ get_or ys k y → f x ≡ y → map f (take k xs) ≡ take k ys → map f (take (k + 1) xs) ≡ take (k + 1) ys
agree_more f xs ys k x y within-xs within-ys at-xs at-ys same before =
    let e : get_or xs k x ≡ x = get_or_from_slice_get xs k x x at-xs in
    rw (take_more xs k x within-xs, take_more ys k y within-ys, map-append, e, ← at-ys, before, same)

pub places-preserved : goal.places-preserved
places-preserved c = (
  c.places.invariant.0,
  agree_more _ _ _ _ _ _ (omega arith) (omega arith) c.token.ensures c.index-words-place.is (c.is_word.ensures.0 (search rules)) c.places.invariant.1,
)
