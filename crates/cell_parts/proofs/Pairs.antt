-- Pins and their ties side by side, and what loops over them gather.
use Rattle.std.proofs.Common.{◌≡◌, ◌∙◌, ◌+◌, ◌*◌, ◌<◌, ◌≤◌, ℕ, suc, List, [], ◌∷◌, ◌++◌, Option, Some, ap, sym, refl, arith, add-one, append_assoc, append-nil, drop, drop-cons, get_or, length, min, option_map, slice_get}
use Rattle.std.specs.List.{flat_map, zip}
use Rattle.std.proofs.lemmas.List.{drop_all, length-map}
use Rattle.std.proofs.lemmas.List.Concat.{flat_map-cons}
use Rattle.std.proofs.lemmas.List.Sums.{sum_by-cons}
use Rattle.std.proofs.lemmas.Option.{get_or_from_slice_get, slice_get-map, slice_get_read, slice_get_within}
use Rattle.std.proofs.lemmas.Slice.Zip.{length-zip}
use Rattle.facts.proofs.Places.{zip_at}
use Rattle.id_arena.specs.declared.keys.NetId.{NetId}
use Rattle.cell_parts.specs.declared.pins.Pin.{Pin}
use Rattle.cell_parts.specs.Wires.{TiedPin, new_count, new_width, tied_by}

-- what is left begins with the item here
pub left_at : {X : Type 0} (xs : List X) (k : ℕ) (x : X) → k < length xs → x ≡ get_or xs k x → drop k xs ≡ x ∷ drop (k + 1) xs
left_at xs k x within is =
    drop-cons xs k x within ∙ ap (λ y. y ∷ drop (suc k) xs) (sym is) ∙ ap (λ n. x ∷ drop n xs) (sym (add-one k))

-- the pin of a place with its tie
pub tied_at : (items pins : List Pin) (ties : List (Option (List NetId))) (k : ℕ) (pin : Pin) (tie : Option (List NetId))
    → items ≡ pins
    → k < length items
    → pin ≡ get_or items k pin
    → slice_get ties k ≡ Some tie
    → drop k (tied_by pins ties) ≡ record { pin = pin; tie = tie } ∷ drop (k + 1) (tied_by pins ties)
tied_at items pins ties k pin tie same within is there =
    let pair : (Pin × Option (List NetId)) → TiedPin = λ p. record { pin = p.0; tie = p.1 } in
    let here : slice_get pins k ≡ Some pin = ap (λ l. slice_get l k) (sym same) ∙ slice_get_read items (length items) k pin refl within is in
    let tied : TiedPin = record { pin = pin; tie = tie } in
    let at : slice_get (tied_by pins ties) k ≡ Some tied = slice_get-map pair (zip pins ties) k ∙ ap (λ o. option_map pair o) (zip_at pins ties k pin tie here there) in
    left_at (tied_by pins ties) k tied (slice_get_within (tied_by pins ties) k tied at) (sym (get_or_from_slice_get (tied_by pins ties) k tied tied at))

-- no pin is left
pub tied_end : (items pins : List Pin) (ties : List (Option (List NetId))) (k : ℕ) → items ≡ pins → length items ≤ k → drop k (tied_by pins ties) ≡ []
tied_end items pins ties k same end =
    let pair : (Pin × Option (List NetId)) → TiedPin = λ p. record { pin = p.0; tie = p.1 } in
    let long : length (tied_by pins ties) ≡ length (zip pins ties) = length-map (zip pins ties) pair in
    let short : length (zip pins ties) ≡ min (length pins) (length ties) = length-zip pins ties in
    let same-length : length items ≡ length pins = ap length same in
    drop_all k (tied_by pins ties) (omega (arith, long, short, end, same-length))

-- the new nets of what is left are those of the pin here and of the rest
pub count_here : (all rest : List TiedPin) (tied : TiedPin) → all ≡ tied ∷ rest → new_count all ≡ new_width tied + new_count rest
count_here all rest tied here = ap new_count here ∙ sum_by-cons new_width tied rest

-- one pin more is counted
pub count_next : (all rest : List TiedPin) (tied : TiedPin) (whole count width place : ℕ)
    → all ≡ tied ∷ rest
    → width ≡ new_width tied
    → width ≤ 4294967295
    → (count + new_count all ≡ whole) × (count ≤ place * 4294967295)
    → (count + width + new_count rest ≡ whole) × (count + width ≤ (place + 1) * 4294967295)
count_next all rest tied whole count width place here wide small before =
    let more = count_here all rest tied here in
    (omega (arith, more, wide, before.0), omega (arith, before.1, small))

-- a list that is gathered: what comes here is put last, and the rest is still to come
pub gather_next : {X Y : Type 0} (f : X → List Y) (all rest : List X) (x : X) (out new want : List Y)
    → all ≡ x ∷ rest
    → new ≡ out ++ f x
    → out ++ flat_map f all ≡ want
    → new ++ flat_map f rest ≡ want
gather_next f all rest x out new want here pushed before =
    ap (λ l. l ++ flat_map f rest) pushed
    ∙ append_assoc out (f x) (flat_map f rest)
    ∙ ap (λ l. out ++ l) (sym (flat_map-cons f x rest) ∙ ap (flat_map f) (sym here))
    ∙ before

pub gather_end : {X Y : Type 0} (f : X → List Y) (all : List X) (out want : List Y) → all ≡ [] → out ++ flat_map f all ≡ want → out ≡ want
gather_end f all out want none before = sym (append-nil out) ∙ ap (λ l. out ++ flat_map f l) (sym none) ∙ before

-- an item more is put last
pub put_more : {X : Type 0} (front xs ys out new : List X) (x : X) → out ≡ front ++ xs → new ≡ out ++ x ∷ [] → ys ≡ xs ++ x ∷ [] → new ≡ front ++ ys
put_more front xs ys out new x before pushed more =
    pushed ∙ ap (λ l. l ++ x ∷ []) before ∙ append_assoc front xs (x ∷ []) ∙ ap (λ l. front ++ l) (sym more)
