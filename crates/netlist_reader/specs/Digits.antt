-- Inside: digits as they stand in a name.
use Rattle.std.specs.Borrow.{Bor}
use Rattle.std.specs.Prelude.{decimal, ◌∷◌, ◌++◌, ◌≡◌, ◌≢◌, ◌<◌, ◌^◌, ℕ, List, Option, Some, None, length, get_or}
use Rattle.std.specs.Str.Parse.{AllDigits, digits_value}

-- there is a first byte, and `0` stands alone
abbrev pub IsShort : List ℕ → Type 0
IsShort digits = (0 < length digits) × (get_or digits 0 0 ≡ 48 → length digits ≡ 1)

-- the value of digits, where it is below 2^32
abbrev pub IsValueOf : List ℕ → Option ℕ → Type 0
IsValueOf digits None = AllDigits 10 digits → digits_value 10 digits < 2 ^ 32 → ⊥
IsValueOf digits (Some n) = AllDigits 10 digits × (n ≡ digits_value 10 digits) × (n < 2 ^ 32)

-- the place of the first `_`, if there is one
abbrev pub IsFirstBar : List ℕ → Option ℕ → Type 0
IsFirstBar bytes None = (k : ℕ) → k < length bytes → get_or bytes k 0 ≢ 95
IsFirstBar bytes (Some place) = (place < length bytes) × (get_or bytes place 0 ≡ 95) × ((k : ℕ) → k < place → get_or bytes k 0 ≢ 95)

-- the number below 2^32 before the first `_`, in decimal, and what stands behind that `_`
abbrev pub IsNumberBefore : List ℕ → Option (ℕ × Bor (List ℕ)) → Type 0
IsNumberBefore bytes None = (n : ℕ) (behind : List ℕ) → n < 2 ^ 32 → bytes ≢ decimal n ++ 95 ∷ behind
IsNumberBefore bytes (Some found) = bytes ≡ decimal found.0 ++ 95 ∷ found.1.now
