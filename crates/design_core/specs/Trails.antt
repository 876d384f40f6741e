-- The path of a scope as it is written, from the outermost name inwards.
-- The rule is told in docs/FORMATS.md, "Names and paths".
use Rattle.std.specs.Prelude.{◌≡◌, ◌<◌, ℕ, Option, Some, None, List, [], ◌∷◌, ◌++◌, length, slice_get}
use Rattle.design_core.specs.declared.parts.Scope.{Scope}
use Rattle.design_core.specs.Names.{escaped}

-- the name of a scope
abbrev pub the_name : Option Scope → List ℕ
the_name None = []
the_name (Some scope) = scope.name

abbrev pub name_at : List Scope → ℕ → List ℕ
name_at scopes s = the_name (slice_get scopes s)

-- the scope around a scope
abbrev pub the_parent : Option Scope → Option ℕ
the_parent None = None
the_parent (Some scope) = scope.parent

abbrev pub parent_at : List Scope → ℕ → Option ℕ
parent_at scopes s = the_parent (slice_get scopes s)

-- these scopes are there
abbrev pub AreScopes : List Scope → List ℕ → Type 0
AreScopes scopes trail = (k s : ℕ) → slice_get trail k ≡ Some s → s < length scopes

-- what stands between the path of the scopes around and a name
abbrev pub separator : List (List ℕ) → List ℕ
separator [] = []
separator (name ∷ outer) = 47 ∷ []

-- the path whose names, from the innermost outwards, are these
abbrev pub written_path : List (List ℕ) → List ℕ
written_path [] = []
written_path (name ∷ outer) = written_path outer ++ (separator outer ++ escaped name)
