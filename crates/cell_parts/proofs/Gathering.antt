-- Pins that are put last one by one, each once.
use Rattle.std.proofs.Common.{◌≡◌, ◌∙◌, Bool, true, false, not, ◌&&◌, ◌||◌, cond, List, [], ◌∷◌, ◌++◌, ℕ, Option, Some, None, is_some, ap, sym, refl, append_assoc, append-nil}
use Rattle.std.specs.Prelude.{filter, bytes_eq}
use Rattle.std.specs.List.{list_any}
use Rattle.std.proofs.Math.Bool.{or-false}
use Rattle.std.proofs.lemmas.List.{map-append}
use Rattle.std.proofs.lemmas.List.Folds.{list_any-append, list_any_at}
use Rattle.std.proofs.lemmas.List.Quantifiers.{position-Some}
use Rattle.std.proofs.lemmas.Slice.Eq.{bytes_eq-Decides}
use Rattle.id_arena.specs.Names.{place_among}
use Rattle.id_arena.proofs.FirstPlaces.{list_any-position}
use Rattle.cell_table.proofs.PinsLemmas.{bytes_eq-swapped}
use Rattle.cell_parts.specs.declared.pins.Pin.{Pin}
use Rattle.cell_parts.specs.Named.{with_pin}
use Rattle.cell_parts.specs.Pins.{once, pin_names}

-- whether a pin has the name
abbrev has : List Pin → List ℕ → Bool
has pins name = is_some (place_among (pin_names pins) name)

-- whether a pin is none of some pins
abbrev is_new : List Pin → Pin → Bool
is_new pins pin = not (has pins pin.name)

-- whether a pin has another name
abbrev is_other : Pin → Pin → Bool
is_other pin other = not (bytes_eq pin.name other.name)

-- pins, and then those of further ones that are none of them, each once
abbrev pub added : List Pin → List Pin → List Pin
added pins more = pins ++ filter (is_new pins) (once more)

-- two filters are one
filter_both : {X : Type 0} (f g h : X → Bool) (xs : List X) → ((x : X) → h x ≡ (g x && f x)) → filter f (filter g xs) ≡ filter h xs
filter_both f g h [] both = refl
filter_both f g h (x ∷ xs) both = go (g x) (f x) (h x) refl (both x) (filter_both f g h xs both)
  where
    go : (a b c : Bool) → f x ≡ b → c ≡ (a && b) → filter f (filter g xs) ≡ filter h xs → filter f (cond a (x ∷ filter g xs) (filter g xs)) ≡ cond c (x ∷ filter h xs) (filter h xs)
    go true true c e is rest = rw (e, is) (ap (λ l. x ∷ l) rest)
    go true false c e is rest = rw (e, is) rest
    go false b c e is rest = rw is rest

-- a filter that lets all through
filter_all : {X : Type 0} (xs : List X) → filter (λ x. true) xs ≡ xs
filter_all [] = refl
filter_all (x ∷ xs) = ap (λ l. x ∷ l) (filter_all xs)

found_any : (names : List (List ℕ)) (name : List ℕ) (found : Option ℕ) → place_among names name ≡ found → is_some found ≡ list_any (bytes_eq name) names
found_any names name None e = sym (list_any-position (bytes_eq name) names e)
found_any names name (Some k) e =
    let here = position-Some (bytes_eq name) names k [] e in
    sym (list_any_at (bytes_eq name) names k [] here.0 here.1)

has_any : (pins : List Pin) (name : List ℕ) → has pins name ≡ list_any (bytes_eq name) (pin_names pins)
has_any pins name = found_any (pin_names pins) name (place_among (pin_names pins) name) refl

-- one pin more
has_more : (pins : List Pin) (pin : Pin) (name : List ℕ) → has (pins ++ pin ∷ []) name ≡ (has pins name || bytes_eq name pin.name)
has_more pins pin name =
    has_any (pins ++ pin ∷ []) name
    ∙ ap (list_any (bytes_eq name)) (map-append (λ (p : Pin). p.name) pins (pin ∷ []))
    ∙ list_any-append (bytes_eq name) (pin_names pins) (pin.name ∷ [])
    ∙ ap (λ b. list_any (bytes_eq name) (pin_names pins) || b) (or-false (bytes_eq name pin.name))
    ∙ ap (λ b. b || bytes_eq name pin.name) (sym (has_any pins name))

neither : (a b : Bool) → not (a || b) ≡ (not b && not a)
neither true true = refl
neither true false = refl
neither false true = refl
neither false false = refl

-- a pin of the name of one of the pins is not new
known_twice : (pins : List Pin) (pin other : Pin) → has pins pin.name ≡ true → is_new pins other ≡ (is_other pin other && is_new pins other)
known_twice pins pin other known = go (bytes_eq pin.name other.name) refl
  where
    go : (b : Bool) → bytes_eq pin.name other.name ≡ b → is_new pins other ≡ (not b && is_new pins other)
    go true same = ap not (ap (has pins) (sym ((bytes_eq-Decides pin.name other.name).0 same)) ∙ known)
    go false apart = refl

new_both : (pins : List Pin) (pin other : Pin) → is_new (pins ++ pin ∷ []) other ≡ (is_other pin other && is_new pins other)
new_both pins pin other =
    ap not (has_more pins pin other.name ∙ ap (λ b. has pins other.name || b) (bytes_eq-swapped other.name pin.name))
    ∙ neither (has pins other.name) (bytes_eq pin.name other.name)

-- none so far
pub added_none : (more : List Pin) → added [] more ≡ once more
added_none more = filter_all (once more)

-- none left
pub added_all : (pins : List Pin) → added pins [] ≡ pins
added_all pins = append-nil pins

-- one more
pub added_more : (pins more : List Pin) (pin : Pin) → added (with_pin pins pin) more ≡ added pins (pin ∷ more)
added_more pins more pin = go (has pins pin.name) refl
  where
    go : (b : Bool) → has pins pin.name ≡ b → added (cond b pins (pins ++ pin ∷ [])) more ≡ pins ++ cond (not b) (pin ∷ filter (is_new pins) (filter (is_other pin) (once more))) (filter (is_new pins) (filter (is_other pin) (once more)))
    go true known =
        ap (λ l. pins ++ l) (sym (filter_both (is_new pins) (is_other pin) (is_new pins) (once more) (λ other. known_twice pins pin other known)))
    go false new =
        append_assoc pins (pin ∷ []) (filter (is_new (pins ++ pin ∷ [])) (once more))
        ∙ ap (λ l. pins ++ pin ∷ l) (sym (filter_both (is_new pins) (is_other pin) (is_new (pins ++ pin ∷ [])) (once more) (new_both pins pin)))

-- what the loop needs
pub ruleset gathered = (added_none, added_all, added_more)

-- the next one is added
pub added_next : (pins new all rest want : List Pin) (pin : Pin) → new ≡ with_pin pins pin → all ≡ pin ∷ rest → added pins all ≡ want → added new rest ≡ want
added_next pins new all rest want pin pushed here so_far =
    ap (λ p. added p rest) pushed ∙ added_more pins rest pin ∙ ap (added pins) (sym here) ∙ so_far
