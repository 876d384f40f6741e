-- The least place at which a rule fails.
-- The rule is told in docs/RULES.md, "Acceptance".
use Rattle.std.specs.Prelude.{◌≡◌, ℕ, Option, Some, None, List, [], ◌∷◌}
use Rattle.emu_machine.specs.declared.place.Place.{Place}
use Rattle.emu_machine.specs.Acceptance.{place_key, Precedes}

-- a rule that is told by where it fails holds where it fails at no place
abbrev pub Never : (Place → Type 0) → Type 0
Never fails = (at : Place) → fails at → ⊥

-- the least place at which a rule fails, or none where it holds
abbrev pub IsLeast : (Place → Type 0) → Option Place → Type 0
IsLeast fails None = Never fails
IsLeast fails (Some at) = fails at × ((other : Place) → Precedes (place_key other) (place_key at) → fails other → ⊥)

-- ## Inside: places of one part

-- a key begins with these numbers
abbrev pub Begins : List ℕ → List ℕ → Type 0
Begins [] key = Unit {0}
Begins (a ∷ front) [] = ⊥
Begins (a ∷ front) (b ∷ key) = (a ≡ b) × Begins front key

-- the same among the places whose keys begin with these numbers
abbrev pub IsLeastUnder : (Place → Type 0) → List ℕ → Option Place → Type 0
IsLeastUnder fails front None = (at : Place) → Begins front (place_key at) → fails at → ⊥
IsLeastUnder fails front (Some at) =
    Begins front (place_key at) × fails at
    × ((other : Place) → Begins front (place_key other) → Precedes (place_key other) (place_key at) → fails other → ⊥)
