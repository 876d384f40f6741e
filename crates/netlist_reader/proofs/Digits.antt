-- The value of digits, one after another.
use Rattle.std.proofs.Common.{◌≡◌, ◌≢◌, ◌↔◌, ◌+◌, ◌-◌, ◌*◌, ◌<◌, ◌≤◌, ◌^◌, ℕ, zero, suc, Bool, true, false, IsTrue, List, Some, None, Option, length, get_or, take, refl, sym, ap, ◌∙◌, subst, arith}
use Rattle.std.specs.Prelude.{MatchOption, decimal}
use Rattle.std.specs.Int.{IsInRange}
use Rattle.std.specs.Str.Parse.{AllDigits, digits_value}
use Rattle.std.proofs.lemmas.Fmt.{decimal_is_IsNumeral, decimal-digits_value, first_decimal, decimal_digit}
use Rattle.std.proofs.lemmas.Int.Digits.{digits_more, digits_value_more}
use Rattle.std.proofs.lemmas.Str.{digit_value_digit}
use Rattle.std.proofs.lemmas.Str.Parse.{digits_value-take-le, numerals_by_value, tells_digits}
use Rattle.netlist_reader.specs.Digits.{IsShort, IsValueOf}

-- one digit more
pub more : (ds : List ℕ) (k value digit : ℕ) → k < length ds → IsInRange 48 57 (get_or ds k 0) → digit ≡ get_or ds k 0 - 48 → AllDigits 10 (take k ds) × (value ≡ digits_value 10 (take k ds)) × (value < 2 ^ 32) → value * 10 + digit < 2 ^ 32 → AllDigits 10 (take (k + 1) ds) × (value * 10 + digit ≡ digits_value 10 (take (k + 1) ds)) × (value * 10 + digit < 2 ^ 32)
more ds k value digit within range is before fits =
    let own = digit_value_digit (get_or ds k 0) range in
    let step = digits_value_more 10 ds k within in (
      digits_more 10 ds k within before.0 (omega arith),
      omega (arith, before.1),
      fits,
    )

-- the value of all is no less than that of some
pub too_large : (ds : List ℕ) (k value digit : ℕ) → k < length ds → IsInRange 48 57 (get_or ds k 0) → digit ≡ get_or ds k 0 - 48 → value ≡ digits_value 10 (take k ds) → 2 ^ 32 ≤ value * 10 + digit → AllDigits 10 ds → digits_value 10 ds < 2 ^ 32 → ⊥
too_large ds k value digit within range is before large all small =
    let own = digit_value_digit (get_or ds k 0) range in
    let step = digits_value_more 10 ds k within in
    let least = digits_value-take-le 10 ds (k + 1) (omega arith) in
    omega (arith, before)

short : (n : ℕ) → n < 2 ^ 32 → get_or (decimal n) 0 0 ≡ 48 → length (decimal n) ≡ 1
short zero small is = rw (decimal_digit 0 (omega arith)) refl
short (suc n) small is = (let first = first_decimal (suc n) (omega arith) (omega arith) in absurd (omega arith))

-- what is short and has a value is the decimal text of it
pub number_is : (ds : List ℕ) (found : Option ℕ) → IsShort ds → IsValueOf ds found → MatchOption found ((n : ℕ) → n < 2 ^ 32 → ds ≢ decimal n) (λ n. ds ≡ decimal n)
number_is ds None is none = λ n small e.
    let numeral = decimal_is_IsNumeral n (omega arith) in
    none (subst (λ d. AllDigits 10 d) (sym e) numeral.0.1)
    (subst (λ d. digits_value 10 d < 2 ^ 32) (sym e) (omega (arith, numeral.1)))
number_is ds (Some n) is found =
    let value = found.1 in
    let text = decimal-digits_value (numerals_by_value (AllDigits 10) tells_digits) ds found.0 is.0 is.1 (omega (arith, found.2)) in
    sym text ∙ ap decimal (sym value)

-- the decimal text of a number is short
pub not_short : (ds : List ℕ) (fine : Bool) → fine ≡ false → (IsTrue fine ↔ IsShort ds) → (n : ℕ) → n < 2 ^ 32 → ds ≡ decimal n → ⊥
not_short ds fine is tells n small e =
    let numeral = decimal_is_IsNumeral n (omega arith) in
    let holds : IsShort (decimal n) = (numeral.0.0, short n small) in
    let wrong : false ≡ true = sym is ∙ tells.1 (subst (λ d. IsShort d) (sym e) holds) in
    cc
