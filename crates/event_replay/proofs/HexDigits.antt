-- The hexadecimal digits of a number that is given by its bits.
use Rattle.std.proofs.Common.{◌≡◌, ℕ, zero, suc, ◌+◌, ◌*◌, ◌/◌, ◌%◌, ◌^◌, ◌<◌, Bool, true, false, List, [], ◌∷◌, ◌++◌, drop, get_or, refl, sym, ap, ◌∙◌, append_assoc, arith}
use Rattle.std.proofs.Math.Nat.{div-div-eq-div-mul, div-one, pow-succ'}
use Rattle.std.proofs.lemmas.List.{drop-drop}
use Rattle.std.specs.Char.{digit_char}
use Rattle.design_core.specs.Operation.{bit, number}
use Rattle.domain_groups.specs.Traces.{hex_text}

bit_below : (b : Bool) → bit b < 2
bit_below true = omega arith
bit_below false = omega arith

-- the lowest digit, by its four bits
pub low_digit : (bs : List Bool) → bit (get_or bs 0 false) + 2 * bit (get_or bs 1 false) + 4 * bit (get_or bs 2 false) + 8 * bit (get_or bs 3 false) ≡ number bs % 16
low_digit [] = refl
low_digit (a ∷ []) = omega (arith, bit_below a)
low_digit (a ∷ b ∷ []) = omega (arith, bit_below a, bit_below b)
low_digit (a ∷ b ∷ c ∷ []) = omega (arith, bit_below a, bit_below b, bit_below c)
low_digit (a ∷ b ∷ c ∷ d ∷ bs) = omega (arith, bit_below a, bit_below b, bit_below c, bit_below d)

-- without the lowest digit
four_less : (bs : List Bool) → number (drop 4 bs) ≡ number bs / 16
four_less [] = refl
four_less (a ∷ []) = omega (arith, bit_below a)
four_less (a ∷ b ∷ []) = omega (arith, bit_below a, bit_below b)
four_less (a ∷ b ∷ c ∷ []) = omega (arith, bit_below a, bit_below b, bit_below c)
four_less (a ∷ b ∷ c ∷ d ∷ bs) = omega (arith, bit_below a, bit_below b, bit_below c, bit_below d)

-- without as many low digits as are told
pub digits_less : (after : ℕ) (bs : List Bool) → number (drop (after * 4) bs) ≡ number bs / 16 ^ after
digits_less zero bs = sym (div-one (number bs))
digits_less (suc after) bs =
    let places : suc after * 4 ≡ 4 + after * 4 = omega arith in
    ap (λ n. number (drop n bs)) places
    ∙ ap number (sym (drop-drop (after * 4) 4 bs))
    ∙ digits_less after (drop 4 bs)
    ∙ ap (λ n. n / 16 ^ after) (four_less bs)
    ∙ div-div-eq-div-mul (number bs) 16 (16 ^ after)
    ∙ ap (λ n. number bs / n) (sym (pow-succ' 16 after))

-- the digit after which so many stand
pub digit_of : (after : ℕ) (bs rest : List Bool) (a b c d : ℕ)
    → rest ≡ drop (after * 4) bs
    → a ≡ bit (get_or rest 0 false)
    → b ≡ bit (get_or rest 1 false)
    → c ≡ bit (get_or rest 2 false)
    → d ≡ bit (get_or rest 3 false)
    → a + 2 * b + 4 * c + 8 * d ≡ number bs / 16 ^ after % 16
digit_of after bs rest a b c d er ea eb ec ed =
    rw (ea, eb, ec, ed) (low_digit rest ∙ ap (λ n. n % 16) (ap number er ∙ digits_less after bs))

-- a text that goes on with the digits of a number, with the next of them put to it
pub hex_step : (count after n digit byte : ℕ) (before next whole : List ℕ)
    → count ≡ after + 1
    → digit ≡ n / 16 ^ after % 16
    → byte ≡ digit_char digit
    → next ≡ before ++ byte ∷ []
    → before ++ hex_text count n ≡ whole
    → next ++ hex_text after n ≡ whole
hex_step count after n digit byte before next whole more is shown added so_far =
    let plus_one : count ≡ suc after = omega arith in
    let front : hex_text count n ≡ byte ∷ hex_text after n = rw (plus_one, shown, is) refl in
    rw added (append_assoc before (byte ∷ []) (hex_text after n) ∙ ap (λ t. before ++ t) (sym front) ∙ so_far)
