-- Offered to the crates above. Each element of a design has just one path.
use Rattle.std.proofs.Common.{◌≡◌, ◌<◌, ℕ, zero, suc, List, [], ◌∷◌, Option, Some, None, length, slice_get, refl, sym, ap, ◌∙◌, subst, arith}
use Rattle.std.specs.Prelude.{IfSome}
use Rattle.std.specs.List.{AllZip}
use Rattle.std.proofs.lemmas.Option.{same_Some, slice_get-get_or, slice_get_within}
use Rattle.design_core.specs.declared.parts.Parts.{Parts}
use Rattle.design_core.specs.declared.parts.Scope.{Scope}
use Rattle.design_core.specs.Names.{AreOutward, IsNamed, IsPath, IsPathIn, IsTrail, path_of}
use Rattle.domain_groups.specs.Openings.{ArePaths}

one_trail : (scopes : List Scope) (s t : ℕ) (one other : List (List ℕ)) → s ≡ t → IsTrail scopes s one → IsTrail scopes t other → one ≡ other
one_trail scopes s t [] [] same (IsTrail.top _ scope here none) (IsTrail.top _ scope-2 here-2 none-2) = refl
one_trail scopes s t [] other same (IsTrail.top _ scope here none) (IsTrail.inside _ parent scope-2 outer here-2 some trail) =
    absurd (let is : scope ≡ scope-2 = same_Some scope scope-2 (sym here ∙ ap (slice_get scopes) same ∙ here-2) in
    let clash : None ≡ Some parent = sym none ∙ ap (λ (x : Scope). x.parent) is ∙ some in cc)
one_trail scopes s t one [] same (IsTrail.inside _ parent scope-2 outer here-2 some trail) (IsTrail.top _ scope here none) =
    absurd (let is : scope ≡ scope-2 = same_Some scope scope-2 (sym here ∙ ap (slice_get scopes) (sym same) ∙ here-2) in
    let clash : None ≡ Some parent = sym none ∙ ap (λ (x : Scope). x.parent) is ∙ some in cc)
one_trail scopes s t one other same (IsTrail.inside _ parent scope outer here some trail) (IsTrail.inside _ parent-2 scope-2 outer-2 here-2 some-2 trail-2) =
    let is : scope ≡ scope-2 = same_Some scope scope-2 (sym here ∙ ap (slice_get scopes) same ∙ here-2) in
    let above : parent ≡ parent-2 = same_Some parent parent-2 (sym some ∙ ap (λ (x : Scope). x.parent) is ∙ some-2) in
    let rest : outer ≡ outer-2 = one_trail scopes parent parent-2 outer outer-2 above trail trail-2 in
    ap (λ (x : Scope). x.name ∷ outer) is ∙ ap (λ o. scope-2.name ∷ o) rest

pub one_path : (p : Parts) (s : ℕ) (one other : List ℕ) → IsPath p s one → IsPath p s other → one ≡ other
one_path p s one other a b = a.2 ∙ ap path_of (one_trail p.scopes s s a.0 b.0 refl a.1 b.1) ∙ sym b.2

pub same_paths : (p : Parts) (scopes : List ℕ) (one other : List (List ℕ)) → AllZip (IsPath p) scopes one → AllZip (IsPath p) scopes other → one ≡ other
same_paths p [] [] [] a b = refl
same_paths p [] [] (y ∷ ys) a b = absurd b
same_paths p [] (x ∷ xs) ys a b = absurd a
same_paths p (s ∷ ss) [] ys a b = absurd a
same_paths p (s ∷ ss) (x ∷ xs) [] a b = absurd b
same_paths p (s ∷ ss) (x ∷ xs) (y ∷ ys) a b = ap (λ z. z ∷ xs) (one_path p s x y a.0 b.0) ∙ ap (λ zs. y ∷ zs) (same_paths p ss xs ys a.1 b.1)

no_place : {X : Type 0} (xs : List X) (k : ℕ) → k < length xs → slice_get xs k ≡ None → ⊥
no_place [] k low none = absurd (omega arith)
no_place (x ∷ xs) zero low none = cc
no_place (x ∷ xs) (suc k) low none = no_place xs k (omega arith) none

-- a scope has a trail where those around it have one
trail_in : (scopes : List Scope) (s : ℕ) (scope : Scope) → slice_get scopes s ≡ Some scope → (o : Option ℕ) → scope.parent ≡ o → ((parent : ℕ) → scope.parent ≡ Some parent → (trail : List (List ℕ)) × IsTrail scopes parent trail) → (trail : List (List ℕ)) × IsTrail scopes s trail
trail_in scopes s scope here None none around = ([], IsTrail.top s scope here none)
trail_in scopes s scope here (Some parent) some around =
    let outer = around parent some in
    (scope.name ∷ outer.0, IsTrail.inside s parent scope outer.0 here some outer.1)

-- a scope has a trail: going outwards comes to an end
trail_there : (scopes : List Scope) → AreOutward scopes → (bound s : ℕ) → s < bound → s < length scopes → (trail : List (List ℕ)) × IsTrail scopes s trail
trail_there scopes outward zero s low there = absurd (omega arith)
trail_there scopes outward (suc bound) s low there =
    at (slice_get scopes s) refl (λ parent less. trail_there scopes outward bound parent (omega arith) (omega arith))
  where
    at : (o : Option Scope) → slice_get scopes s ≡ o → ((parent : ℕ) → parent < s → (trail : List (List ℕ)) × IsTrail scopes parent trail) → (trail : List (List ℕ)) × IsTrail scopes s trail
    at None none around = absurd (no_place scopes s there none)
    at (Some scope) here around =
        trail_in scopes s scope here scope.parent refl (λ parent is. around parent (subst (λ o. IfSome o (λ q. q < s)) is (outward s scope here)))

all_paths : (p : Parts) (scopes : List ℕ) → AreOutward p.scopes → ((k s : ℕ) → slice_get scopes k ≡ Some s → s < length p.scopes) → (paths : List (List ℕ)) × AllZip (IsPath p) scopes paths
all_paths p [] outward there = ([], tt)
all_paths p (s ∷ ss) outward there =
    let trail = trail_there p.scopes outward (suc s) s (omega arith) (there 0 s refl) in
    let rest = all_paths p ss outward (λ k t here. there (suc k) t here) in
    (path_of trail.0 ∷ rest.0, ((trail.0, trail.1, refl), rest.1))

-- each element of a design has a path
pub paths_there : (p : Parts) → IsNamed p → (paths : List (List ℕ)) × ArePaths p paths
paths_there p named = all_paths p p.paths named.parents named.path_scopes

-- the path of an element is the one at its place
pub path_at : (p : Parts) (scopes : List ℕ) (paths : List (List ℕ)) (k s : ℕ) (text : List ℕ) → AllZip (IsPath p) scopes paths → slice_get scopes k ≡ Some s → IsPath p s text → slice_get paths k ≡ Some text
path_at p [] paths k s text are here is = absurd (cc)
path_at p (t ∷ ts) [] k s text are here is = absurd are
path_at p (t ∷ ts) (q ∷ qs) zero s text are here is = (let same : t ≡ s = cc in ap Some (one_path p s q text (subst (λ u. IsPath p u q) same are.0) is))
path_at p (t ∷ ts) (q ∷ qs) (suc k) s text are here is = path_at p ts qs k s text are.1 here is

pub as_many : (p : Parts) (scopes : List ℕ) (paths : List (List ℕ)) → AllZip (IsPath p) scopes paths → length paths ≡ length scopes
as_many p [] [] are = refl
as_many p [] (q ∷ qs) are = absurd are
as_many p (s ∷ ss) [] are = absurd are
as_many p (s ∷ ss) (q ∷ qs) are = ap suc (as_many p ss qs are.1)
