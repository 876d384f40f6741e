-- The least net without a driver, list by list.
use Rattle.std.proofs.Common.{◌≡◌, ◌∙◌, ◌+◌, ◌<◌, ℕ, List, [], ◌∷◌, ◌++◌, Option, ap, sym, refl, drop, length, get_or}
use Rattle.std.specs.List.{flat_map}
use Rattle.std.proofs.lemmas.List.{drop_more}
use Rattle.id_arena.specs.declared.keys.NetId.{NetId}
use Rattle.design_core.specs.declared.drives.Driven.{Driven}
use Rattle.design_core.specs.Reads.{lower, lowest}

pub lowest-append : (table : List Driven) (least : Option NetId) (xs ys : List NetId) → lowest table least (xs ++ ys) ≡ lowest table (lowest table least xs) ys
lowest-append table least [] ys = refl
lowest-append table least (x ∷ xs) ys = lowest-append table (lower table least x) xs ys

pub ruleset append_rules = (lowest-append)

-- the nets of one more item are looked at
pub one_more : {X : Type 0} (F : X → List NetId) (table : List Driven) (xs : List X) (i : ℕ) (x : X) (least found : Option NetId) → i < length xs → x ≡ get_or xs i x → found ≡ lowest table least (F x) → lowest table found (flat_map F (drop (i + 1) xs)) ≡ lowest table least (flat_map F (drop i xs))
one_more F table xs i x least found within here done =
    let step : drop i xs ≡ x ∷ drop (i + 1) xs = drop_more xs i x within ∙ ap (λ y. y ∷ drop (i + 1) xs) (sym here) in
    rw (step, lowest-append, ← done) refl
