-- Digits as they stand in a name.
use Rattle.std.specs.Prelude.{◌≡◌, ◌<◌, ◌^◌, ℕ, List, Option, Some, None, length, get_or}
use Rattle.std.specs.Str.Parse.{AllDigits, digits_value}

-- there is a first byte, and `0` stands alone
abbrev pub IsShort : List ℕ → Type 0
IsShort digits = (0 < length digits) × (get_or digits 0 0 ≡ 48 → length digits ≡ 1)

-- the value of digits, where it is below 2^32
abbrev pub IsValueOf : List ℕ → Option ℕ → Type 0
IsValueOf digits None = AllDigits 10 digits → digits_value 10 digits < 2 ^ 32 → ⊥
IsValueOf digits (Some n) = AllDigits 10 digits × (n ≡ digits_value 10 digits) × (n < 2 ^ 32)
