-- Inside the descent: tables of lists of numbers, and numbers that are put at the ends of some lists.
use Rattle.std.specs.Prelude.{◌≡◌, ◌-◌, ℕ, Bool, false, ◌==◌, if◌then◌else◌, List, [], ◌∷◌, ◌++◌, Option, Some, None, length, slice_get, slice_index_or}
use Rattle.link_rows.specs.Rows.{has}

-- the list at a place, empty where there is none
abbrev pub at : List (List ℕ) → ℕ → List ℕ
at table k = slice_index_or table k []

-- whether a number is the one that is there
abbrev pub is_the : Option ℕ → ℕ → Bool
is_the None number = false
is_the (Some last) number = last == number

-- whether a number is the last of a list
abbrev pub is_last : ℕ → List ℕ → Bool
is_last number xs = is_the (slice_get xs (length xs - 1)) number

-- a list with a number at its end, unless it stands there
abbrev pub with_last : ℕ → List ℕ → List ℕ
with_last number xs = if is_last number xs then xs else xs ++ number ∷ []

-- a list with a number put at its end, where it is to be
abbrev pub put_if : Bool → ℕ → List ℕ → List ℕ
put_if b number xs = if b then xs ++ number ∷ [] else xs

-- the number is put at the end of each list whose place is among the heads
pub record HasUnder (heads : List ℕ) (number : ℕ) (old new : List (List ℕ)) : Type 0 where
  pub count : length new ≡ length old
  pub each : (head : ℕ) → at new head ≡ put_if (has head heads) number (at old head)
