-- Tests that pass, and steps that are not refused.
use Rattle.std.proofs.Common.{◌≡◌, ◌≤◌, ◌+◌, ℕ, Bool, true, false, List, [], ◌∷◌, ◌++◌, Some, None, Ok, Err, length, map, refl, sym, arith}
use Rattle.std.specs.Prelude.{flat_map, if◌then◌else◌, nat_lt}
use Rattle.std.proofs.lemmas.Bool.{ltb-false}
use Rattle.std.proofs.lemmas.Option.{none-some}
use Rattle.design_core.specs.declared.fault.LimitKind.{LimitKind}
use Rattle.design_core.specs.Most.{most_elements, most_nets, most_words}
use Rattle.flattening.specs.declared.fault.ElabFault.TheVariants.{Limit}
use Rattle.flattening.specs.declared.made.Made.{Made}
use Rattle.flattening.specs.Pieces.{Deed, beyond, joined, performed, room_tests, words_in}
use Rattle.flattening.specs.Steps.{Outcome, Step, Test, first_fault, followed, tested, unless}
use Rattle.flattening.proofs.Everywhere.{Every}

-- a test passes
abbrev pub Passes : Test → Type 0
Passes test = test ≡ None

pub each_passes : (tests : List Test) → first_fault tests ≡ None → Every Passes tests
each_passes [] none = tt
each_passes (None ∷ tests) none = (refl, each_passes tests none)
each_passes (Some fault ∷ tests) none = absurd (none-some fault (sym none))

pub every_parts : {X : Type 0} (P : X → Type 0) (xs ys : List X) → Every P (xs ++ ys) → Every P xs × Every P ys
every_parts P [] ys all = (tt, all)
every_parts P (x ∷ xs) ys all = let parts = every_parts P xs ys all.1 in ((all.0, parts.0), parts.1)

pub of_map : {X Y : Type 0} (P : X → Type 0) (f : Y → X) (ys : List Y) → Every P (map f ys) → Every (λ y. P (f y)) ys
of_map P f [] all = tt
of_map P f (y ∷ ys) all = (all.0, of_map P f ys all.1)

pub of_flat : {X Y : Type 0} (P : X → Type 0) (f : Y → List X) (ys : List Y) → Every P (flat_map f ys) → Every (λ y. Every P (f y)) ys
of_flat P f [] all = tt
of_flat P f (y ∷ ys) all = let parts = every_parts P (f y) (flat_map f ys) all in (parts.0, of_flat P f ys parts.1)

-- what passes a limit is not more than the most
pub within_most : (which : LimitKind) (at most count : ℕ) → Passes (beyond which at most count) → count ≤ most
within_most which at most count none = go (nat_lt most count) refl none
  where
    go : (b : Bool) → nat_lt most count ≡ b → (if b then Some (Limit which at) else None) ≡ None → count ≤ most
    go true e none = absurd (none-some (Limit which at) (sym none))
    go false e none = let no = ltb-false most count e in omega (arith, no)

pub unless_ok : {A : Type 0} (test : Test) (a b : A) → unless test a ≡ Ok b → Passes test × (a ≡ b)
unless_ok None a b e = (refl, let same : a ≡ b = cc in same)
unless_ok (Some fault) a b e = absurd (let clash : Err fault ≡ Ok b = e in cc)

-- a step after another is done where both are
pub record Done (first next : Step) (made new : Made) : Type 0 where
  pub mid : Made
  pub before : first made ≡ Ok mid
  pub after : next mid ≡ Ok new

done_by : (first next : Step) (made new : Made) (o : Outcome) → first made ≡ o → followed o next ≡ Ok new → Done first next made new
done_by first next made new (Ok mid) is e = record { mid = mid; before = is; after = e }
done_by first next made new (Err fault) is e = absurd (let clash : Err fault ≡ Ok new = e in cc)

pub done : (first next : Step) (made new : Made) → followed (first made) next ≡ Ok new → Done first next made new
done first next made new e = done_by first next made new (first made) refl e

pub tested_ok : (tests : List Test) (made new : Made) → tested tests made ≡ Ok new → Every Passes tests × (made ≡ new)
tested_ok tests made new e = let parts = unless_ok (first_fault tests) made new e in (each_passes tests parts.0, parts.1)

-- a deed is done where its tests pass, and there is room for its piece
pub record IsPerformed (deed : Deed) (made new : Made) : Type 0 where
  pub tests : Every Passes deed.tests
  pub nets : length made.net_names + length deed.piece.net_names ≤ most_nets
  pub elements : length made.elements + length deed.piece.elements ≤ most_elements
  pub words : words_in made.memories + words_in deed.piece.memories ≤ most_words
  pub is : joined made deed.piece ≡ new

pub performed_ok : (at : ℕ) (deed : Deed) (made new : Made) → performed at deed made ≡ Ok new → IsPerformed deed made new
performed_ok at deed made new e =
    let parts = unless_ok (first_fault (deed.tests ++ room_tests at made deed.piece)) (joined made deed.piece) new e in
    let tests = every_parts Passes deed.tests (room_tests at made deed.piece) (each_passes (deed.tests ++ room_tests at made deed.piece) parts.0) in
    record {
      tests = tests.0;
      nets = within_most _ at most_nets _ tests.1.0;
      elements = within_most _ at most_elements _ tests.1.1.0;
      words = within_most _ at most_words _ tests.1.1.1.0;
      is = parts.1;
    }
