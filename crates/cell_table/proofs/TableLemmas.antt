-- Lists of cells: one more cell, and the place of a name.
use Rattle.std.proofs.Common.{◌≡◌, ◌∙◌, ◌+◌, ◌<◌, ◌≤◌, ◌≢◌, ◌⊎◌, ℕ, zero, suc, List, [], ◌∷◌, ◌++◌, Bool, true, false, Option, Some, None, ap, subst, refl, take, length, get_or, inl, inr, arith}
use Rattle.std.specs.Prelude.{slice_get, bytes_eq, ◌||◌}
use Rattle.std.specs.List.{list_any}
use Rattle.std.proofs.lemmas.List.{take_more, take-append-le, take_all, length-take-le}
use Rattle.std.proofs.lemmas.Option.{option_and_then_some, slice_get_within, get_or_from_slice_get}
use Rattle.std.proofs.lemmas.Slice.Eq.{bytes_eq-Decides}
use Rattle.id_arena.proofs.FirstPlaces.{list_any-position}
use Rattle.id_arena.specs.Names.{place_among}
use Rattle.serde_json.specs.Data.{Data}
use Rattle.json_members.specs.Members.{all_of}
use Rattle.cell_table.specs.Faults.{cell_fault, cell_of}
use Rattle.cell_table.specs.Table.{names_of, IsTable}
use Rattle.cell_table.specs.declared.cell.Cell.{Cell}

or-apart : (a b : Bool) → (a || b) ≡ false → a ≡ true → ⊥
or-apart true b none some = cc
or-apart false b none some = cc

or-right : (a b : Bool) → (a || b) ≡ false → b ≡ false
or-right true b none = cc
or-right false b none = none

-- one thing more is read
pub all_of-push : {X A : Type 0} (f : X → Option A) (xs : List X) (x : X) (ys : List A) (y : A) → all_of f xs ≡ Some ys → f x ≡ Some y → all_of f (xs ++ x ∷ []) ≡ Some (ys ++ y ∷ [])
all_of-push f [] x ys y read last =
    let none : [] ≡ ys = cc in
    rw (last, ← none) refl
all_of-push f (z ∷ xs) x ys y read last =
    option_and_then_some _ (f z) ys read (λ v first rest.
    option_and_then_some _ (all_of f xs) ys rest (λ vs more same.
    let longer = all_of-push f xs x vs y more last in
    let parts : v ∷ vs ≡ ys = cc in
    rw (first, longer, ← parts) refl))

-- what stands in a list with one item more
slice_get-push : {X : Type 0} (xs : List X) (x : X) (k : ℕ) (e : X) → slice_get (xs ++ x ∷ []) k ≡ Some e → ((k < length xs) × (slice_get xs k ≡ Some e)) ⊎ ((k ≡ length xs) × (x ≡ e))
slice_get-push [] x zero e there = inr (refl, cc)
slice_get-push [] x (suc k) e there = absurd (cc)
slice_get-push (y ∷ xs) x zero e there = inl (omega arith, there)
slice_get-push (y ∷ xs) x (suc k) e there =
    elim (slice_get-push xs x k e there) [ inl h ↦ inl (omega (arith, h.0), h.1) | inr h ↦ inr (ap suc h.0, h.1) ]

-- the places of a longer list up to where it was longer
take-push : (cells : List Cell) (cell : Cell) (k : ℕ) → k ≤ length cells → take k (cells ++ cell ∷ []) ≡ take k cells
take-push cells cell k within = take-append-le k cells (cell ∷ []) within

-- one cell more is a table, if it has no fault beside the others
pub IsTable-more : (version : ℕ) (ds : List Data) (cells : List Cell) (i : ℕ) (d : Data) (cell : Cell) → IsTable version (take i ds) cells → length cells ≡ i → slice_get ds i ≡ Some d → cell_fault version (names_of cells) d ≡ None → cell_of version d ≡ Some cell → IsTable version (take (i + 1) ds) (cells ++ cell ∷ [])
IsTable-more version ds cells i d cell table count there sound said =
    let within : i < length ds = slice_get_within ds i d there in
    let front : length (take i ds) ≡ i = length-take-le i ds (omega arith) in
    let item : get_or ds i d ≡ d = get_or_from_slice_get ds i d d there in
    let more : take (i + 1) ds ≡ take i ds ++ d ∷ [] = take_more ds i d within ∙ ap (λ x. take i ds ++ x ∷ []) item in
    record {
      said = rw more (all_of-push (cell_of version) (take i ds) d cells cell table.said said);
      sound = λ k e at. elim (slice_get-push (take i ds) d k e (rw more at at)) [
        | inl h ↦
            let few : k ≤ length cells = omega (arith, h.0) in
            rw (take-push cells cell k few) (table.sound k e h.1)
        | inr h ↦
            let few : k ≤ length cells = omega (arith, h.0) in
            let all : take k cells ≡ cells = take_all k cells (omega (arith, h.0)) in
            rw (take-push cells cell k few, all, ← h.1) sound
      ];
    }

-- a text without a place stands nowhere
pub none_named : (names : List (List ℕ)) (text : List ℕ) (k : ℕ) → list_any (bytes_eq text) names ≡ false → slice_get names k ≡ Some text → ⊥
none_named [] text k none at = cc
none_named (name ∷ names) text zero none at =
    let same : name ≡ text = cc in
    let equal : bytes_eq text text ≡ true = (bytes_eq-Decides text text).1 refl in
    let first : (bytes_eq text text || list_any (bytes_eq text) names) ≡ false = subst (λ n. (bytes_eq text n || list_any (bytes_eq text) names) ≡ false) same none in
    or-apart (bytes_eq text text) (list_any (bytes_eq text) names) first equal
none_named (name ∷ names) text (suc k) none at = none_named names text k (or-right (bytes_eq text name) (list_any (bytes_eq text) names) none) at

-- a text is found nowhere exactly where it stands nowhere
pub not_found : (names : List (List ℕ)) (text : List ℕ) (k : ℕ) → place_among names text ≡ None → slice_get names k ≢ Some text
not_found names text k none at = none_named names text k (list_any-position (bytes_eq text) names none) at
