-- Inside the reader of openings: what its steps answer.
use Rattle.std.specs.Prelude.{◌≡◌, ◌≤◌, ℕ, true, false, List, [], ◌∷◌, ⊤, Option, Some, None, slice_get, Result, Ok, Err}
use Rattle.design_core.specs.declared.parts.Parts.{Parts}
use Rattle.std.specs.List.{AllByRecursion}
use Rattle.settled_model.specs.declared.opening.Opening.{Opening}
use Rattle.domain_groups.specs.declared.openings.OpeningFault.{OpeningFault}
use Rattle.domain_groups.specs.declared.openings.OpeningFault.TheVariants.{NotJson, BadShape, NoMemory, NoWord}
use Rattle.event_replay.specs.Opened.{plain}
use Rattle.domain_groups.specs.GivenOpening.{GivenOpening, GivenValue, GivenWord}
use Rattle.domain_groups.specs.Openings.{ArePaths, has_address, opening_faults, plain_opening, value_fault, width_of, word_fault}

-- the fault that there is; where there is none, a value of which something holds; nothing is said of the text as
-- a whole
abbrev pub Checks : {A : Type 0} → Option OpeningFault → (A → Type 0) → Result A OpeningFault → Type 0
Checks fault Good (Ok value) = (fault ≡ None) × Good value
Checks fault Good (Err NotJson) = ⊥
Checks fault Good (Err BadShape) = ⊥
Checks fault Good (Err NoMemory) = Unit {0}
Checks fault Good (Err told) = fault ≡ Some told

-- the first of some faults
abbrev pub first_of : List OpeningFault → Option OpeningFault
first_of faults = slice_get faults 0

-- the first fault of an opening, or what it gives to the design
abbrev pub Judged : Parts → GivenOpening → Result Opening OpeningFault → Type 0
Judged p given result =
    (paths : List (List ℕ)) × ArePaths p paths × Checks (first_of (opening_faults p paths given)) (λ o. plain o ≡ plain_opening p paths given) result

-- the width of a memory's words, where it has the address
abbrev pub WidthAt : Parts → ℕ → ℕ → Option ℕ → Type 0
WidthAt p address m None = has_address p address m ≡ false
WidthAt p address m (Some width) = (has_address p address m ≡ true) × (width_of p m ≡ width) × (width ≤ 128)

-- the memory of an entry and the width of its words, where it has the address
abbrev pub IsAddressed : Parts → (List ℕ → Option ℕ) → GivenWord → Option (ℕ × ℕ) → Type 0
IsAddressed p memory given None = word_fault p memory given ≡ Some (NoWord given.path)
IsAddressed p memory given (Some found) =
    (memory given.path ≡ Some found.0)
    × (word_fault p memory given ≡ value_fault given.path given.digits found.1)
    × (found.1 ≤ 128)

-- no two of these have one name
abbrev pub AreApart : List GivenValue → Type 0
AreApart [] = ⊤
AreApart (v ∷ vs) = AllByRecursion (λ w. v.name ≡ w.name → ⊥) vs × AreApart vs
