-- First places of names in lists that grow.
use Rattle.std.proofs.Common.{◌≡◌, ◌<◌, ℕ, Bool, true, false, ◌||◌, Option, Some, None, List, [], ◌∷◌, ◌++◌, ap, sym, ◌∙◌, refl, arith, cond, is_some, length, length-append}
use Rattle.std.specs.Prelude.{bytes_eq}
use Rattle.std.specs.Option.{option_or}
use Rattle.std.proofs.lemmas.List.{get_or_append_left}
use Rattle.std.proofs.lemmas.List.Folds.{list_any-append, list_any_at}
use Rattle.std.proofs.lemmas.List.Quantifiers.{position-Some}
use Rattle.id_arena.specs.Names.{place_among}
use Rattle.id_arena.proofs.FirstPlaces.{list_any-position, position-is, position-last}
use Rattle.module_nets.specs.Names.{Name, is_among}

-- a name that is not among the names has no place
pub none_place : (names : List Name) (name : Name) → is_among names name ≡ false → place_among names name ≡ None
none_place names name none = go (place_among names name) refl
  where
    go : (o : Option ℕ) → place_among names name ≡ o → o ≡ None
    go None e = refl
    go (Some p) e =
        let first = position-Some (bytes_eq name) names p [] e in
        let some = list_any_at (bytes_eq name) names p [] first.0 first.1 in
        let bad : false ≡ true = sym none ∙ some in cc

-- a name that is put last stands there, unless it stood before
pub place_more : (names : List Name) (last name : Name) → place_among (names ++ last ∷ []) name ≡ option_or (place_among names name) (cond (bytes_eq name last) (Some (length names)) None)
place_more names last name = go (place_among names name) refl
  where
    test : Name → Bool
    test = bytes_eq name

    past : (b : Bool) → test last ≡ b → place_among names name ≡ None → place_among (names ++ last ∷ []) name ≡ cond b (Some (length names)) None
    past true e none = position-last test names last none e
    past false e none =
        none_place (names ++ last ∷ []) name
        (list_any-append test names (last ∷ []) ∙ ap (λ b. b || (test last || false)) (list_any-position test names none) ∙ ap (λ b. b || false) e)

    go : (o : Option ℕ) → place_among names name ≡ o → place_among (names ++ last ∷ []) name ≡ option_or o (cond (test last) (Some (length names)) None)
    go (Some p) e =
        let first = position-Some test names p [] e in
        position-is test (names ++ last ∷ []) p [] (omega (arith, first.0, length-append names (last ∷ [])))
        (λ k before. ap test (get_or_append_left names (last ∷ []) [] k (omega (arith, first.0, before))) ∙ first.2 k before)
        (ap test (get_or_append_left names (last ∷ []) [] p first.0) ∙ first.1)
    go None e = past (test last) refl e

-- a name has a place where it is among the names
pub place_is_some : (names : List Name) (name : Name) → is_some (place_among names name) ≡ is_among names name
place_is_some names name = go (place_among names name) refl
  where
    go : (o : Option ℕ) → place_among names name ≡ o → is_some o ≡ is_among names name
    go None e = sym (list_any-position (bytes_eq name) names e)
    go (Some p) e = let first = position-Some (bytes_eq name) names p [] e in sym (list_any_at (bytes_eq name) names p [] first.0 first.1)

-- a name among the names has a place there
pub place_there : (names : List Name) (name : Name) → is_among names name ≡ true → (p : ℕ) × (place_among names name ≡ Some p) × (p < length names)
place_there names name among = go (place_among names name) refl
  where
    go : (o : Option ℕ) → place_among names name ≡ o → (p : ℕ) × (place_among names name ≡ Some p) × (p < length names)
    go None e = absurd (let bad : true ≡ false = sym among ∙ list_any-position (bytes_eq name) names e in let no : ⊥ = cc in no)
    go (Some p) e = (p, e, (position-Some (bytes_eq name) names p [] e).0)
