-- Texts that are numbered in the order of their first use.
use Rattle.std.specs.Prelude.{ℕ, List, [], ◌∷◌, ◌++◌, Option, position, is_some, if◌then◌else◌}
use Rattle.std.specs.Str.{bytes_eq}

-- the first place at which the text stands among the names, if it does
abbrev pub place_among : List (List ℕ) → List ℕ → Option ℕ
place_among names text = position (bytes_eq text) names

-- the names after a text is interned: those that were there, and the text last if it was not among them
abbrev pub with_name : List (List ℕ) → List ℕ → List (List ℕ)
with_name names text = if is_some (place_among names text) then names else names ++ text ∷ []
