-- A net of a design has one name.
use Rattle.std.proofs.Common.{◌≡◌, ◌∙◌, ℕ, List, [], ◌∷◌, Some, None, slice_get, refl, sym, ap, arith}
use Rattle.std.proofs.lemmas.Option.{same_Some}
use Rattle.design_core.specs.declared.parts.NetName.{NetName}
use Rattle.design_core.specs.declared.parts.Parts.{Parts}
use Rattle.design_core.specs.declared.parts.Scope.{Scope}
use Rattle.design_core.specs.Names.{IsNetText, IsPath, IsTrail, named_in, path_of}

one_trail : (scopes : List Scope) (s t : ℕ) (one other : List (List ℕ)) → s ≡ t → IsTrail scopes s one → IsTrail scopes t other → one ≡ other
one_trail scopes s t [] [] same (IsTrail.top _ scope here none) (IsTrail.top _ scope-2 here-2 none-2) = refl
one_trail scopes s t [] other same (IsTrail.top _ scope here none) (IsTrail.inside _ parent scope-2 outer here-2 some trail) =
    absurd (let is : scope ≡ scope-2 = same_Some scope scope-2 (sym here ∙ ap (slice_get scopes) same ∙ here-2) in
    let clash : None ≡ Some parent = sym none ∙ ap (λ (x : Scope). x.parent) is ∙ some in cc)
one_trail scopes s t one [] same (IsTrail.inside _ parent scope-2 outer here-2 some trail) (IsTrail.top _ scope here none) =
    absurd (let is : scope ≡ scope-2 = same_Some scope scope-2 (sym here ∙ ap (slice_get scopes) (sym same) ∙ here-2) in
    let clash : None ≡ Some parent = sym none ∙ ap (λ (x : Scope). x.parent) is ∙ some in cc)
one_trail scopes s t one other same (IsTrail.inside _ parent scope outer here some trail) (IsTrail.inside _ parent-2 scope-2 outer-2 here-2 some-2 trail-2) =
    let is : scope ≡ scope-2 = same_Some scope scope-2 (sym here ∙ ap (slice_get scopes) same ∙ here-2) in
    let above : parent ≡ parent-2 = same_Some parent parent-2 (sym some ∙ ap (λ (x : Scope). x.parent) is ∙ some-2) in
    let rest : outer ≡ outer-2 = one_trail scopes parent parent-2 outer outer-2 above trail trail-2 in
    ap (λ (x : Scope). x.name ∷ outer) is ∙ ap (λ o. scope-2.name ∷ o) rest

one_path : (p : Parts) (s t : ℕ) (one other : List ℕ) → s ≡ t → IsPath p s one → IsPath p t other → one ≡ other
one_path p s t one other same a b = a.2 ∙ ap path_of (one_trail p.scopes s t a.0 b.0 same a.1 b.1) ∙ sym b.2

pub one_name : (p : Parts) (n m : ℕ) (one other : List ℕ) → n ≡ m → IsNetText p n one → IsNetText p m other → one ≡ other
one_name p n m one other same IsNetText.low IsNetText.low = refl
one_name p n m one other same IsNetText.low IsNetText.high = absurd (omega (arith, same))
one_name p n m one other same IsNetText.low (IsNetText.named _ name path high here way) = absurd (omega (arith, same, high))
one_name p n m one other same IsNetText.high IsNetText.low = absurd (omega (arith, same))
one_name p n m one other same IsNetText.high IsNetText.high = refl
one_name p n m one other same IsNetText.high (IsNetText.named _ name path high here way) = absurd (omega (arith, same, high))
one_name p n m one other same (IsNetText.named _ name path high here way) IsNetText.low = absurd (omega (arith, same, high))
one_name p n m one other same (IsNetText.named _ name path high here way) IsNetText.high = absurd (omega (arith, same, high))
one_name p n m one other same (IsNetText.named _ name path high here way) (IsNetText.named _ name-2 path-2 high-2 here-2 way-2) =
    let is : name ≡ name-2 = same_Some name name-2 (sym here ∙ ap (slice_get p.net_names) same ∙ here-2) in
    let scope : name.scope ≡ name-2.scope = ap (λ (x : NetName). x.scope) is in
    ap (named_in path) is ∙ ap (λ t. named_in t name-2) (one_path p name.scope name-2.scope path path-2 scope way way-2)
