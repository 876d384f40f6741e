-- Names that are gathered, one item after another.
use Rattle.std.proofs.Common.{◌≡◌, ◌+◌, ◌<◌, ℕ, Bool, List, [], ◌∷◌, ◌++◌, ap, sym, ◌∙◌, refl, add-one, append_assoc, drop, drop-cons, get_or, length, map}
use Rattle.std.specs.Prelude.{filter, flat_map}
use Rattle.std.proofs.lemmas.List.Elements.{filter-append}
use Rattle.verilog_tree.specs.declared.source.Expr.{Expr}
use Rattle.verilog_tree.specs.declared.source.Expr.TheVariants.{Join, Repeat, rolls-Join, rolls-Repeat}
use Rattle.verilog_tree.specs.declared.source.Expr.TheOpen as layer
use Rattle.verilog_tree.specs.declared.source.Expr.TheFolds.{fold-roll-Expr}
use Rattle.module_nets.specs.declared.mention.Mention.{Mention}
use Rattle.module_nets.specs.Mentions.{uses, uses_step}

-- the rest of a list from a place on begins with the item there
rest : {X : Type 0} (xs : List X) (k : ℕ) (x : X) → k < length xs → x ≡ get_or xs k x → drop k xs ≡ x ∷ drop (k + 1) xs
rest xs k x within is = rw (drop-cons xs k x within, ← is, add-one)

-- joining the images of items joins the items by the image
flat_map-map : {X Y Z : Type 0} (f : X → Y) (g : Y → List Z) (xs : List X) → flat_map g (map f xs) ≡ flat_map (λ x. g (f x)) xs
flat_map-map f g [] = refl
flat_map-map f g (x ∷ xs) = ap (λ l. g (f x) ++ l) (flat_map-map f g xs)

-- what is kept of the items that are left, after that of one
pub kept_more : {X : Type 0} (keep : Mention → Bool) (f : X → List Mention) (xs : List X) (k : ℕ) (x : X) (out new all : List Mention) → k < length xs → x ≡ get_or xs k x → new ≡ out ++ filter keep (f x) → out ++ filter keep (flat_map f (drop k xs)) ≡ all → new ++ filter keep (flat_map f (drop (k + 1) xs)) ≡ all
kept_more keep f xs k x out new all within is added before =
    let left = filter keep (flat_map f (drop (k + 1) xs)) in
    ap (λ l. l ++ left) added
    ∙ append_assoc out (filter keep (f x)) left
    ∙ sym (ap (λ l. out ++ l) (ap (λ l. filter keep (flat_map f l)) (rest xs k x within is) ∙ filter-append keep (f x) (flat_map f (drop (k + 1) xs))))
    ∙ before

pub kept_next : {X : Type 0} (keep : Mention → Bool) (f : X → Mention) (xs : List X) (k : ℕ) (x : X) (out new all : List Mention) → k < length xs → x ≡ get_or xs k x → new ≡ out ++ filter keep (f x ∷ []) → out ++ filter keep (map f (drop k xs)) ≡ all → new ++ filter keep (map f (drop (k + 1) xs)) ≡ all
kept_next keep f xs k x out new all within is added before =
    let left = filter keep (map f (drop (k + 1) xs)) in
    ap (λ l. l ++ left) added
    ∙ append_assoc out (filter keep (f x ∷ [])) left
    ∙ sym (ap (λ l. out ++ l) (ap (λ l. filter keep (map f l)) (rest xs k x within is) ∙ filter-append keep (f x ∷ []) (map f (drop (k + 1) xs))))
    ∙ before

-- the uses in joined and in repeated parts
pub uses_join : (parts : List Expr) → uses (Join parts) ≡ flat_map uses parts
uses_join parts = ap uses (sym (rolls-Join parts)) ∙ fold-roll-Expr (List Mention) uses_step (layer.Join parts) ∙ flat_map-map uses (λ part. part) parts

pub uses_repeat : (count : ℕ) (parts : List Expr) → uses (Repeat count parts) ≡ flat_map uses parts
uses_repeat count parts = ap uses (sym (rolls-Repeat count parts)) ∙ fold-roll-Expr (List Mention) uses_step (layer.Repeat count parts) ∙ flat_map-map uses (λ part. part) parts

pub ruleset uses_inside = (uses_join, uses_repeat)
