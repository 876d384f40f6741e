-- A table filled drive by drive, list by list.
use Rattle.std.proofs.Common.{◌≡◌, ◌∙◌, ◌+◌, ◌<◌, ℕ, List, [], ◌∷◌, ◌++◌, ap, sym, refl, drop, length, get_or}
use Rattle.std.specs.List.{flat_map, enumerate_from}
use Rattle.std.proofs.lemmas.List.{drop_more, length-set}
use Rattle.design_core.specs.declared.drives.Driven.{Driven}
use Rattle.design_core.specs.Drives.{Drive, put, put_all}

pub put_all-append : (xs ys : List Drive) (t : List Driven) → put_all (xs ++ ys) t ≡ put_all ys (put_all xs t)
put_all-append [] ys t = refl
put_all-append (x ∷ xs) ys t = put_all-append xs ys (put t x)

pub put_all-length : (xs : List Drive) (t : List Driven) → length (put_all xs t) ≡ length t
put_all-length [] t = refl
put_all-length (x ∷ xs) t = put_all-length xs (put t x) ∙ length-set t x.net _

-- the drives of one more item are put
pub nested : {X : Type 0} (F : X → List Drive) (xs : List X) (i : ℕ) (x : X) (t u : List Driven) → i < length xs → x ≡ get_or xs i x → u ≡ put_all (F x) t → put_all (flat_map F (drop (i + 1) xs)) u ≡ put_all (flat_map F (drop i xs)) t
nested F xs i x t u within here done =
    let step : drop i xs ≡ x ∷ drop (i + 1) xs = drop_more xs i x within ∙ ap (λ y. y ∷ drop (i + 1) xs) (sym here) in
    rw (step, put_all-append, ← done) refl

-- the same where items are counted
pub nested_from : {X : Type 0} (F : ℕ × X → List Drive) (xs : List X) (i : ℕ) (x : X) (t u : List Driven) → i < length xs → x ≡ get_or xs i x → u ≡ put_all (F (i, x)) t → put_all (flat_map F (enumerate_from (i + 1) (drop (i + 1) xs))) u ≡ put_all (flat_map F (enumerate_from i (drop i xs))) t
nested_from F xs i x t u within here done =
    let step : drop i xs ≡ x ∷ drop (i + 1) xs = drop_more xs i x within ∙ ap (λ y. y ∷ drop (i + 1) xs) (sym here) in
    rw (step, put_all-append, ← done) refl

pub ruleset append_rules = (put_all-append)
