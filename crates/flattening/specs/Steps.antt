-- Steps that are done one after the other, up to the first that is refused; and tests, of which the first that fails
-- is the fault. The order of faults is the order of steps and tests.
-- The rule is told in docs/FORMATS.md, "Faults of flattening".
use Rattle.std.specs.Prelude.{Option, Some, None, List, [], ◌∷◌, Result, Ok, Err}
use Rattle.std.specs.Option.{option_or}
use Rattle.flattening.specs.declared.fault.ElabFault.{ElabFault}
use Rattle.flattening.specs.declared.made.Made.{Made}

-- what is made after a step, or why it is refused
abbrev pub Outcome : Type 0
Outcome = Result Made ElabFault

-- a step goes on from what was made before it
abbrev pub Step : Type 0
Step = Made → Outcome

-- a step that comes after an outcome: nothing comes after a fault
abbrev pub followed : Outcome → Step → Outcome
followed (Ok made) next = next made
followed (Err fault) next = Err fault

-- the steps of some things, in their order
abbrev pub in_turn : {X : Type 0} → (X → Step) → List X → Step
in_turn step [] made = Ok made
in_turn step (x ∷ xs) made = followed (step x made) (in_turn step xs)

-- steps, in their order
abbrev pub all_steps : List Step → Step
all_steps [] made = Ok made
all_steps (step ∷ steps) made = followed (step made) (all_steps steps)

-- a test gives a fault, or none
abbrev pub Test : Type 0
Test = Option ElabFault

-- the fault of the first test that fails
abbrev pub first_fault : List Test → Test
first_fault [] = None
first_fault (test ∷ tests) = option_or test (first_fault tests)

-- something, where there is no fault
abbrev pub unless : {A : Type 0} → Test → A → Result A ElabFault
unless None a = Ok a
unless (Some fault) a = Err fault

-- the step of tests alone
abbrev pub tested : List Test → Step
tested tests made = unless (first_fault tests) made
