use Rattle.std.proofs.Common.{get_or, ◌∷◌, ◌++◌, [], ◌≡◌, take, sym, ap, ◌∙◌, ℕ, ◌+◌, List}
use Rattle.std.specs.Prelude.{slice_get, Some}
use Rattle.std.proofs.lemmas.List.{take_more}
use Rattle.std.proofs.lemmas.Option.{get_or_from_slice_get, slice_get_within}
use Rattle.seed_place.proofs.placing.rooms_of.Goals as goal

-- one room more is read
one_more : (rooms read more : List ℕ) (k room : ℕ) → read ≡ take k rooms → slice_get rooms k ≡ Some room
    → more ≡ read ++ room ∷ [] → more ≡ take (k + 1) rooms
one_more rooms read more k room so_far at is =
    let here : get_or rooms k 0 ≡ room = get_or_from_slice_get rooms k room 0 at in
    is ∙ ap (λ (xs : List ℕ). xs ++ room ∷ []) so_far ∙ ap (λ (r : ℕ). take k rooms ++ r ∷ []) (sym here)
    ∙ sym (take_more rooms k 0 (slice_get_within rooms k room at))

pub chips-preserved : goal.chips-preserved
chips-preserved c =
    one_more _ _ _ c.chips.chip c.room.result c.chips.invariant (rw c.of.ensures at c.room.ensures) c.in_ok-push.ensures.items
