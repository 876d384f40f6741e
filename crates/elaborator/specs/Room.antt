-- The limits on what is made, by how much more is to be made.
-- The rule is told in docs/FORMATS.md, "Faults of flattening".
use Rattle.std.specs.Prelude.{◌+◌, ℕ, List, [], ◌∷◌, length}
use Rattle.design_core.specs.declared.element.Element.{Element}
use Rattle.design_core.specs.declared.fault.LimitKind.TheVariants.{Elements, Nets, Words}
use Rattle.design_core.specs.Most.{most_elements, most_nets, most_words}
use Rattle.flattening.specs.declared.made.Made.{Made}
use Rattle.flattening.specs.Pieces.{Deed, beyond, elements_in, words_in}
use Rattle.flattening.specs.Steps.{Test}

-- the limits that a piece may pass which has so many nets, elements and words: for each piece these are its own
abbrev pub limits : ℕ → Made → ℕ → ℕ → ℕ → List Test
limits at made nets elements words =
    beyond Nets at most_nets (length made.net_names + nets)
    ∷ beyond Elements at most_elements (length made.elements + elements)
    ∷ beyond Words at most_words (words_in made.memories + words)
    ∷ []

-- elements alone, without a test
abbrev pub elements_alone : ℕ → List Element → Deed
elements_alone scope elements = record { tests = []; piece = elements_in scope elements }
