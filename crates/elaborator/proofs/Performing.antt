-- Tests that pass or fail, and the limits of a piece.
use Rattle.std.proofs.Common.{◌≡◌, ◌≢◌, Result, subst, ◌∙◌, ℕ, Some, None, List, [], ◌∷◌, ◌++◌, Ok, Err, ap, sym, refl, length}
use Rattle.std.specs.Option.{option_or}
use Rattle.std.specs.Result.{IsErr, IsErrAnd}
use Rattle.facts.proofs.Tests.{no}
use Rattle.flattening.specs.declared.fault.ElabFault.{ElabFault}
use Rattle.flattening.specs.declared.fault.ElabFault.TheVariants.{NoMemory}
use Rattle.flattening.specs.declared.made.Made.{Made}
use Rattle.flattening.specs.Pieces.{joined, performed, room_tests, words_in}
use Rattle.flattening.specs.Steps.{Step, Test, first_fault, unless}
use Rattle.elaborator.specs.Outcomes.{Does}
use Rattle.elaborator.specs.Room.{limits}

-- the first fault of some tests and then more
pub first_both : (tests more : List Test) → first_fault (tests ++ more) ≡ option_or (first_fault tests) (first_fault more)
first_both [] more = refl
first_both (None ∷ tests) more = first_both tests more
first_both (Some fault ∷ tests) more = refl

-- a test that passes leaves the others
pub passes : (at : ℕ) (test : Test) (tests : List Test) (piece made : Made) → test ≡ None → performed at (record { tests = test ∷ tests; piece = piece }) made ≡ performed at (record { tests = tests; piece = piece }) made
passes at test tests piece made none = rw none refl

-- one that fails is the fault
pub fails : (at : ℕ) (test : Test) (tests : List Test) (piece made : Made) (fault : ElabFault) → test ≡ Some fault → performed at (record { tests = test ∷ tests; piece = piece }) made ≡ Err fault
fails at test tests piece made fault some = rw some refl

limits_are : (at : ℕ) (piece made : Made) (nets elements words : ℕ) → nets ≡ length piece.net_names → elements ≡ length piece.elements → words ≡ words_in piece.memories → limits at made nets elements words ≡ room_tests at made piece
limits_are at piece made nets elements words n e w = rw (n, e, w) refl

-- where no test fails the limits decide, which are those of the numbers of nets, elements and words
decided : (at : ℕ) (tests : List Test) (piece made : Made) (nets elements words : ℕ) (test : Test) → first_fault tests ≡ None → nets ≡ length piece.net_names → elements ≡ length piece.elements → words ≡ words_in piece.memories → first_fault (limits at made nets elements words) ≡ test → performed at (record { tests = tests; piece = piece }) made ≡ unless test (joined made piece)
decided at tests piece made nets elements words test none n e w is =
    ap (λ t. unless t (joined made piece))
    (first_both tests (room_tests at made piece)
    ∙ ap (λ t. option_or t (first_fault (room_tests at made piece))) none
    ∙ ap first_fault (sym (limits_are at piece made nets elements words n e w))
    ∙ is)

pub fits : (at : ℕ) (tests : List Test) (piece made : Made) (nets elements words : ℕ) → first_fault tests ≡ None → nets ≡ length piece.net_names → elements ≡ length piece.elements → words ≡ words_in piece.memories → first_fault (limits at made nets elements words) ≡ None → performed at (record { tests = tests; piece = piece }) made ≡ Ok (joined made piece)
fits at tests piece made nets elements words none n e w is = decided at tests piece made nets elements words None none n e w is

pub full : (at : ℕ) (tests : List Test) (piece made : Made) (nets elements words : ℕ) (fault : ElabFault) → first_fault tests ≡ None → nets ≡ length piece.net_names → elements ≡ length piece.elements → words ≡ words_in piece.memories → first_fault (limits at made nets elements words) ≡ Some fault → performed at (record { tests = tests; piece = piece }) made ≡ Err fault
full at tests piece made nets elements words fault none n e w is = decided at tests piece made nets elements words (Some fault) none n e w is

-- a test that fails is the fault, whatever the limits
pub failed : (at : ℕ) (tests : List Test) (piece made : Made) (fault : ElabFault) → first_fault tests ≡ Some fault → performed at (record { tests = tests; piece = piece }) made ≡ Err fault
failed at tests piece made fault some =
    ap (λ t. unless t (joined made piece)) (first_both tests (room_tests at made piece) ∙ ap (λ t. option_or t (first_fault (room_tests at made piece))) some)

-- a fault that is passed on
pub carried : {X : Type 0} (step : Step) (old new : Made) (fault : ElabFault) (answer : Result X ElabFault) → IsErr answer × IsErrAnd answer (λ e. e ≡ fault) → (fault ≢ NoMemory → step old ≡ Err fault) → Does step old new answer
carried step old new fault (Ok x) is why = no is.0
carried step old new fault (Err e) is why =
    λ free. subst (λ f. step old ≡ Err f) (sym is.1) (why (subst (λ (f : ElabFault). f ≢ NoMemory) is.1 free))

-- a step that does what another one does
pub retold : {X : Type 0} (step other : Step) (old new : Made) (answer : Result X ElabFault) → step old ≡ other old → Does other old new answer → Does step old new answer
retold step other old new (Ok x) same does = same ∙ does
retold step other old new (Err e) same does = λ free. same ∙ does free
