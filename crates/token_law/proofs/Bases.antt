-- The bases, their letters and their digits.
use Rattle.std.proofs.Common.{◌≡◌, ℕ, ◌<◌, ◌≤◌, arith, Bool, true, List, subst, sym}
use Rattle.std.specs.Prelude.{◌==◌, ◌&&◌, ◌||◌, nat_le, Some, Contains, codes}
use Rattle.std.specs.Char.{is_ascii_digit, is_ascii_hexdigit}
use Rattle.std.proofs.lemmas.Bool.Decides.{nat_tests}
use Rattle.std.proofs.lemmas.Option.{none-some, same_Some}
use Rattle.facts.proofs.Places.{any_found, contains_at}
use Rattle.facts.proofs.Tests.{number_same}
use Rattle.verilog_lex.specs.Bytes.{is_one_of, is_digit_of}
use Rattle.verilog_lex.specs.Numbers.{base_of, radix_of}
use Rattle.token_law.specs.Numbers.{Names, Writes, binary, octal, decimal, hexadecimal}
use Rattle.token_law.proofs.Digits.{Fits, figure_fits, hex_fits, IsFigure, figure_is, lower_is, upper_is, is_figure}
use Rattle.token_law.proofs.Others.{chosen}

one_of : (bytes : List ℕ) (b : ℕ) → is_one_of bytes b ≡ true → Contains bytes b
one_of bytes b e =
    let f = any_found (λ byte. b == byte) bytes e in
    subst (Contains bytes) (sym (number_same b f.1 f.3)) (contains_at bytes f.0 f.1 f.2)

-- a letter names a base, and the bytes that pass a test write its digits
pub record IsBase (letter base : ℕ) (test : ℕ → Bool) : Type 0 where
  pub named : Names letter base
  pub fits : (b : ℕ) → test b ≡ true → Fits base b
  pub only : (b digit : ℕ) → Writes base b digit → test b ≡ true

binary_fits : (b : ℕ) → (b == 48 || b == 49) ≡ true → Fits 2 b
binary_fits b e =
    let low : 48 ≤ b = grind (arith, nat_tests) in
    let high : b ≤ 49 = grind (arith, nat_tests) in
    figure_fits 2 b low (omega arith) (omega arith)

octal_fits : (b : ℕ) → (nat_le 48 b && nat_le b 55) ≡ true → Fits 8 b
octal_fits b e =
    let low : 48 ≤ b = grind (arith, nat_tests) in
    let high : b ≤ 55 = grind (arith, nat_tests) in
    figure_fits 8 b low (omega arith) (omega arith)

pub decimal_fits : (b : ℕ) → is_ascii_digit b ≡ true → Fits 10 b
decimal_fits b e =
    let low : 48 ≤ b = grind (arith, nat_tests) in
    let high : b ≤ 57 = grind (arith, nat_tests) in
    figure_fits 10 b low high (omega arith)

binary_only : (b digit : ℕ) → Writes 2 b digit → (b == 48 || b == 49) ≡ true
binary_only b digit w = go (is_figure 2 b digit (omega arith) w) w.small
  where
    go : IsFigure b digit → digit < 2 → (b == 48 || b == 49) ≡ true
    go (figure_is small e) less = grind (arith, nat_tests)
    go (lower_is large e) less = absurd (omega arith)
    go (upper_is large e) less = absurd (omega arith)

octal_only : (b digit : ℕ) → Writes 8 b digit → (nat_le 48 b && nat_le b 55) ≡ true
octal_only b digit w = go (is_figure 8 b digit (omega arith) w) w.small
  where
    go : IsFigure b digit → digit < 8 → (nat_le 48 b && nat_le b 55) ≡ true
    go (figure_is small e) less = grind (arith, nat_tests)
    go (lower_is large e) less = absurd (omega arith)
    go (upper_is large e) less = absurd (omega arith)

pub decimal_only : (b digit : ℕ) → Writes 10 b digit → is_ascii_digit b ≡ true
decimal_only b digit w = go (is_figure 10 b digit (omega arith) w) w.small
  where
    go : IsFigure b digit → digit < 10 → is_ascii_digit b ≡ true
    go (figure_is small e) less = grind (arith, nat_tests)
    go (lower_is large e) less = absurd (omega arith)
    go (upper_is large e) less = absurd (omega arith)

hex_only : (b digit : ℕ) → Writes 16 b digit → is_ascii_hexdigit b ≡ true
hex_only b digit w = go (is_figure 16 b digit (omega arith) w) w.small
  where
    go : IsFigure b digit → digit < 16 → is_ascii_hexdigit b ≡ true
    go (figure_is small e) less = grind (arith, nat_tests)
    go (lower_is large e) less = grind (arith, nat_tests)
    go (upper_is large e) less = grind (arith, nat_tests)

pub base_is : (letter : ℕ) (base : _) → base_of letter ≡ Some base → IsBase letter (radix_of base) (is_digit_of base)
base_is letter base e =
    chosen e (λ b h. subst (λ x. IsBase letter (radix_of x) (is_digit_of x)) (same_Some _ base h) (record { named = binary (one_of (codes "bB") letter b); fits = binary_fits; only = binary_only }))
    (λ _ h. chosen h (λ o h. subst (λ x. IsBase letter (radix_of x) (is_digit_of x)) (same_Some _ base h) (record { named = octal (one_of (codes "oO") letter o); fits = octal_fits; only = octal_only }))
    (λ _ h. chosen h (λ d h. subst (λ x. IsBase letter (radix_of x) (is_digit_of x)) (same_Some _ base h) (record { named = decimal (one_of (codes "dD") letter d); fits = decimal_fits; only = decimal_only }))
    (λ _ h. chosen h (λ x h. subst (λ x. IsBase letter (radix_of x) (is_digit_of x)) (same_Some _ base h) (record { named = hexadecimal (one_of (codes "hH") letter x); fits = hex_fits; only = hex_only }))
    (λ _ h. absurd (none-some base h)))))
