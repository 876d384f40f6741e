-- The scopes of a design, and the texts that they give nets and elements.
-- The rule is told in docs/FORMATS.md, "Names and paths".
use Rattle.std.specs.Prelude.{◌≡◌, ◌<◌, ◌≤◌, ◌==◌, ℕ, if◌then◌else◌, Option, None, Some, List, [], ◌∷◌, ◌++◌, map, reverse, length, flat_map, slice_get, IfSome, codes, decimal}
use Rattle.std.specs.List.{join_with_byte}
use Rattle.design_core.specs.declared.parts.Parts.{Parts}
use Rattle.design_core.specs.declared.parts.NetName.{NetName}
use Rattle.design_core.specs.declared.parts.Scope.{Scope}

-- the scope around a scope is an earlier one
abbrev pub AreOutward : List Scope → Type 0
AreOutward scopes = (s : ℕ) (scope : Scope) → slice_get scopes s ≡ Some scope → IfSome scope.parent (λ parent. parent < s)

-- Each element has a path, the scope of each net and path is there, and scopes stand in earlier ones.
pub record IsNamed (p : Parts) : Type 0 where
  pub one_path : length p.paths ≡ length p.elements
  pub path_scopes : (k s : ℕ) → slice_get p.paths k ≡ Some s → s < length p.scopes
  pub net_scopes : (n : ℕ) (name : NetName) → slice_get p.net_names n ≡ Some name → name.scope < length p.scopes
  pub parents : AreOutward p.scopes

-- the names of a scope and of the scopes around it, from the scope outwards; the top has no name here
pub data IsTrail (scopes : List Scope) : ℕ → List (List ℕ) → Type 0 where
  top : (s : ℕ) (scope : Scope) → slice_get scopes s ≡ Some scope → scope.parent ≡ None → IsTrail scopes s []
  inside : (s parent : ℕ) (scope : Scope) (outer : List (List ℕ))
      → slice_get scopes s ≡ Some scope
      → scope.parent ≡ Some parent
      → IsTrail scopes parent outer
      → IsTrail scopes s (scope.name ∷ outer)

-- in a path, a `~` of a name is written `~0`, and a `/` is written `~1`
abbrev pub escaped_byte : ℕ → List ℕ
escaped_byte b = if b == 126 then codes "~0" else if b == 47 then codes "~1" else b ∷ []

abbrev pub escaped : List ℕ → List ℕ
escaped name = flat_map escaped_byte name

-- a path: the names from below the top inwards, with `/` between them
abbrev pub path_of : List (List ℕ) → List ℕ
path_of trail = join_with_byte 47 (map escaped (reverse trail))

-- this text is the path of a scope
abbrev pub IsPathIn : List Scope → ℕ → List ℕ → Type 0
IsPathIn scopes s text = (trail : List (List ℕ)) × IsTrail scopes s trail × (text ≡ path_of trail)

abbrev pub IsPath : Parts → ℕ → List ℕ → Type 0
IsPath p s text = IsPathIn p.scopes s text

-- this text is the path of an element
abbrev pub IsElementPath : Parts → ℕ → List ℕ → Type 0
IsElementPath p k text = (s : ℕ) × (slice_get p.paths k ≡ Some s) × IsPath p s text

-- what comes before a name in a scope of this path
abbrev pub before_name : List ℕ → List ℕ
before_name [] = []
before_name (b ∷ bs) = (b ∷ bs) ++ codes "/"

-- the index of a bit of a vector
abbrev pub index_text : Option ℕ → List ℕ
index_text None = []
index_text (Some k) = codes "[" ++ decimal k ++ codes "]"

-- a net's name within the path of its scope
abbrev pub named_in : List ℕ → NetName → List ℕ
named_in path name = before_name path ++ name.name ++ index_text name.index

-- the text that names a net; nets 0 and 1 are the constants
pub data IsNetText (p : Parts) : ℕ → List ℕ → Type 0 where
  low : IsNetText p 0 (codes "1'b0")
  high : IsNetText p 1 (codes "1'b1")
  named : (n : ℕ) (name : NetName) (path : List ℕ)
      → 2 ≤ n
      → slice_get p.net_names n ≡ Some name
      → IsPath p name.scope path
      → IsNetText p n (named_in path name)
