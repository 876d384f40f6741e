-- Trails from a scope outwards, and the path that they give.
use Rattle.std.proofs.Common.{◌≡◌, ◌∙◌, ◌+◌, ◌-◌, get_or, ◌<◌, ◌≤◌, ℕ, zero, suc, List, [], ◌∷◌, ◌++◌, None, Some, ap, sym, subst, refl, map, reverse, length, drop, append_assoc, arith}
use Rattle.std.specs.Prelude.{slice_get, if◌then◌else◌, ◌==◌, codes}
use Rattle.std.specs.List.{join_with_byte}
use Rattle.std.proofs.lemmas.List.{append-nil, map-append, reverse-append, drop_more, length-map, length-drop}
use Rattle.std.proofs.lemmas.Bool.{ne_eqb}
use Rattle.design_core.specs.declared.parts.Scope.{Scope}
use Rattle.design_core.specs.declared.parts.Parts.{Parts}
use Rattle.design_core.specs.declared.parts.NetName.{NetName}
use Rattle.design_core.specs.Names.{AreOutward, IsTrail, IsPathIn, IsNetText, named_in, escaped, path_of}
use Rattle.design_core.specs.Trails.{AreScopes, name_at, parent_at, separator, written_path}

-- an item within a list is there
pub found_at : {X : Type 0} (xs : List X) (k : ℕ) → k < length xs → (x : X) × (slice_get xs k ≡ Some x)
found_at [] k within = absurd (omega (arith, within))
found_at (x ∷ xs) zero within = (x, refl)
found_at (x ∷ xs) (suc k) within = found_at xs k (omega (arith, within))

-- a scope with another around it
inside_at : (scopes : List Scope) (s parent : ℕ) (outer : List (List ℕ)) → s < length scopes → parent_at scopes s ≡ Some parent → IsTrail scopes parent outer → IsTrail scopes s (name_at scopes s ∷ outer)
inside_at scopes s parent outer there around trail =
    let found = found_at scopes s there in
    let around-2 : found.0.parent ≡ Some parent = rw (found.1) at around in
    rw (found.1) (IsTrail.inside s parent found.0 outer found.1 around-2 trail)

top_at : (scopes : List Scope) (s : ℕ) → s < length scopes → parent_at scopes s ≡ None → IsTrail scopes s []
top_at scopes s there around =
    let found = found_at scopes s there in
    let around-2 : found.0.parent ≡ None = rw (found.1) at around in
    IsTrail.top s found.0 found.1 around-2

-- the scope around is an earlier one
pub outer_below : (scopes : List Scope) (s parent : ℕ) → s < length scopes → AreOutward scopes → parent_at scopes s ≡ Some parent → parent < s
outer_below scopes s parent there outward around =
    let found = found_at scopes s there in
    let around-2 : found.0.parent ≡ Some parent = rw (found.1) at around in
    let below = outward s found.0 found.1 in
    rw around-2 at below

-- the trail so far and one scope more
pub goes_on : (scopes : List Scope) (from place parent : ℕ) (trail longer : List ℕ) → place < length scopes → longer ≡ trail ++ place ∷ [] → parent_at scopes place ≡ Some parent → ((outer : List (List ℕ)) → IsTrail scopes place outer → IsTrail scopes from (map (name_at scopes) trail ++ outer)) → (outer : List (List ℕ)) → IsTrail scopes parent outer → IsTrail scopes from (map (name_at scopes) longer ++ outer)
goes_on scopes from place parent trail longer there more around before outer rest =
    let here = before (name_at scopes place ∷ outer) (inside_at scopes place parent outer there around rest) in
    let same : map (name_at scopes) longer ++ outer ≡ map (name_at scopes) trail ++ name_at scopes place ∷ outer =
    ap (λ l. map (name_at scopes) l ++ outer) more ∙ ap (λ l. l ++ outer) (map-append (name_at scopes) trail (place ∷ [])) ∙ append_assoc (map (name_at scopes) trail) (name_at scopes place ∷ []) outer in
    subst (λ l. IsTrail scopes from l) (sym same) here

-- the trail that ends at the top
pub ends : (scopes : List Scope) (from place : ℕ) (trail : List ℕ) → place < length scopes → parent_at scopes place ≡ None → ((outer : List (List ℕ)) → IsTrail scopes place outer → IsTrail scopes from (map (name_at scopes) trail ++ outer)) → IsTrail scopes from (map (name_at scopes) trail)
ends scopes from place trail there around before =
    subst (λ l. IsTrail scopes from l) (append-nil (map (name_at scopes) trail)) (before [] (top_at scopes place there around))

-- one scope more is there
pub still_scopes : (scopes : List Scope) (trail longer : List ℕ) (place : ℕ) → longer ≡ trail ++ place ∷ [] → place < length scopes → AreScopes scopes trail → AreScopes scopes longer
still_scopes scopes trail longer place more there before k s here =
    let here-2 : slice_get (trail ++ place ∷ []) k ≡ Some s = rw more at here in
    go trail k before here-2
  where
    go : (xs : List ℕ) (j : ℕ) → AreScopes scopes xs → slice_get (xs ++ place ∷ []) j ≡ Some s → s < length scopes
    go [] zero all at-j = let same : place ≡ s = cc in rw (← same) there
    go [] (suc j) all at-j = absurd (cc)
    go (x ∷ xs) zero all at-j = all 0 s at-j
    go (x ∷ xs) (suc j) all at-j = go xs j (λ i t here-i. all (suc i) t here-i) at-j

-- a separator stands where there are names
separator_at : (names : List (List ℕ)) (w : ℕ) → length names ≡ w → separator names ≡ (if w == 0 then [] else codes "/")
separator_at [] w same = rw (← same) refl
separator_at (name ∷ names) zero same = absurd (omega (arith, same))
separator_at (name ∷ names) (suc w) same = rw (ne_eqb (suc w) 0 (λ e. omega (arith, e))) refl

-- one name more is written
pub inward : (scopes : List Scope) (trail : List ℕ) (w place d : ℕ) (text new : List ℕ) → w < length trail → place ≡ get_or trail (length trail - 1 - w) d → text ≡ written_path (map (name_at scopes) (drop (length trail - w) trail)) → new ≡ text ++ ((if w == 0 then [] else codes "/") ++ escaped (name_at scopes place)) → new ≡ written_path (map (name_at scopes) (drop (length trail - (w + 1)) trail))
inward scopes trail w place d text new within item before made =
    let at-place : length trail - 1 - w ≡ length trail - (w + 1) = omega arith in
    let next : length trail - (w + 1) + 1 ≡ length trail - w = omega arith in
    let there : length trail - (w + 1) < length trail = omega arith in
    let rest = drop (length trail - w) trail in
    let item-2 : place ≡ get_or trail (length trail - (w + 1)) d = item ∙ ap (λ i. get_or trail i d) at-place in
    let step : drop (length trail - (w + 1)) trail ≡ place ∷ drop (length trail - w) trail =
    drop_more trail (length trail - (w + 1)) d there
    ∙ ap (λ x. x ∷ drop (length trail - (w + 1) + 1) trail) (sym item-2)
    ∙ ap (λ i. place ∷ drop i trail) next in
    let size : length (map (name_at scopes) (drop (length trail - w) trail)) ≡ w =
    length-map (drop (length trail - w) trail) (name_at scopes) ∙ length-drop (length trail - w) trail ∙ omega (arith, within) in
    rw (step, separator_at (map (name_at scopes) (drop (length trail - w) trail)) w size, ← before) made

-- the separators of a path
separator_some : (names : List (List ℕ)) (name : List ℕ) → separator (map escaped (names ++ name ∷ [])) ≡ 47 ∷ []
separator_some [] name = refl
separator_some (n ∷ names) name = refl

reverse_more : (name : List ℕ) (outer : List (List ℕ)) → reverse (name ∷ outer) ≡ reverse outer ++ name ∷ []
reverse_more name outer = reverse-append (name ∷ []) outer

separator_turned : (outer : List (List ℕ)) → separator (map escaped (reverse outer)) ≡ separator outer
separator_turned [] = refl
separator_turned (name ∷ outer) = rw (reverse_more name outer) (separator_some (reverse outer) name)

join_more : (xs : List (List ℕ)) (y : List ℕ) → join_with_byte 47 (xs ++ y ∷ []) ≡ join_with_byte 47 xs ++ (separator xs ++ y)
join_more [] y = refl
join_more (x ∷ []) y = refl
join_more (x ∷ z ∷ xs) y = ap (λ l. x ++ (47 ∷ l)) (join_more (z ∷ xs) y) ∙ sym (append_assoc x (47 ∷ join_with_byte 47 (z ∷ xs)) (47 ∷ y))

-- what is written is the path
pub written_is : (trail : List (List ℕ)) → written_path trail ≡ path_of trail
written_is [] = refl
written_is (name ∷ outer) =
    let whole : path_of (name ∷ outer) ≡ path_of outer ++ (separator outer ++ escaped name) =
    ap (λ l. join_with_byte 47 (map escaped l)) (reverse_more name outer)
    ∙ ap (join_with_byte 47) (map-append escaped (reverse outer) (name ∷ []))
    ∙ join_more (map escaped (reverse outer)) (escaped name)
    ∙ ap (λ s. path_of outer ++ (s ++ escaped name)) (separator_turned outer) in
    ap (λ l. l ++ (separator outer ++ escaped name)) (written_is outer) ∙ sym whole

-- the text when all is written
pub path_done : (scopes : List Scope) (from w : ℕ) (trail : List ℕ) (text : List ℕ) → w ≡ length trail → IsTrail scopes from (map (name_at scopes) trail) → text ≡ written_path (map (name_at scopes) (drop (length trail - w) trail)) → IsPathIn scopes from text
path_done scopes from w trail text all is-trail written =
    let none : length trail - w ≡ 0 = omega arith in
    let whole : text ≡ written_path (map (name_at scopes) trail) = rw none at written in
    (map (name_at scopes) trail, is-trail, whole ∙ written_is (map (name_at scopes) trail))

-- a net's text from its parts
pub net_named : (p : Parts) (n : ℕ) (name : NetName) (path text : List ℕ) → 2 ≤ n → slice_get p.net_names n ≡ Some name → IsPathIn p.scopes name.scope path → text ≡ named_in path name → IsNetText p n text
net_named p n name path text free here is-path same = subst (λ t. IsNetText p n t) (sym same) (IsNetText.named n name path free here is-path)

pub net_low : (p : Parts) (n : ℕ) (text : List ℕ) → n ≡ 0 → text ≡ codes "1'b0" → IsNetText p n text
net_low p n text zero-is same = rw (zero-is, same) (IsNetText.low)

pub net_high : (p : Parts) (n : ℕ) (text : List ℕ) → n ≡ 1 → text ≡ codes "1'b1" → IsNetText p n text
net_high p n text one-is same = rw (one-is, same) (IsNetText.high)
