-- Inside the reader of openings: elements found by their paths.
use Rattle.std.specs.Prelude.{◌≡◌, ◌≤◌, ◌+◌, ℕ, List, [], ◌∷◌, ◌++◌, Option, Some, length, zip, slice_get}
use Rattle.design_core.specs.declared.element.Element.{Element}
use Rattle.design_core.specs.declared.parts.Parts.{Parts}
use Rattle.domain_groups.specs.Openings.{ArePaths, entries, led_to, memory_number, state_number}
use Rattle.event_replay.specs.declared.path_names.Kind.{Kind}
use Rattle.event_replay.specs.declared.path_names.Kind.TheVariants.{State, Memory}

-- the number of an element of a kind
abbrev pub number_of : Kind → ℕ → Element → Option ℕ
number_of State = state_number
number_of Memory = memory_number

-- two lists lead each path to the same number
abbrev pub LeadAlike : List (List ℕ × ℕ) → List (List ℕ × ℕ) → Type 0
LeadAlike one other = (path : List ℕ) → led_to one path ≡ led_to other path

-- each path leads where it does in the design
abbrev pub Indexes : Parts → Kind → List (List ℕ × ℕ) → Type 0
Indexes p kind index = (paths : List (List ℕ)) → ArePaths p paths → LeadAlike index (entries (number_of kind) p.elements paths)

-- one more path with a number is taken in; where the path is known, it leads where it led
pub record TakesIn (names names-2 : List (List ℕ)) (numbers numbers-2 : List ℕ) (path : List ℕ) (number : ℕ) : Type 0 where
  pub same : length numbers-2 ≡ length names-2
  pub few : length names-2 ≤ length names + 1
  pub leads : LeadAlike (zip names-2 numbers-2) (zip names numbers ++ (path, number) ∷ [])
