-- Shifts of one, and tables as numbers.
use Rattle.std.proofs.Common.{◌≡◌, ◌<◌, ◌≤◌, ◌*◌, ◌^◌, ◌%◌, ℕ, true, refl, arith}
use Rattle.std.specs.Prelude.{nat_lt}
use Rattle.std.proofs.lemmas.Bool.{lt-ltb}
use Rattle.std.proofs.Math.Pow.{pow_mono}

-- a number of 64 bits fits a table of 6 inputs and more
pub wide : (t n : ℕ) → t < 2 ^ 64 → 5 < n → true ≡ nat_lt t (2 ^ (2 ^ n))
wide t n fits many =
    let rows : 2 ^ 6 ≤ 2 ^ n = pow_mono {i = 6} {j = n} (omega (arith, many)) in
    let rows-2 : 64 ≤ 2 ^ n = rows in
    let bits : 2 ^ 64 ≤ 2 ^ (2 ^ n) = pow_mono {i = 64} {j = 2 ^ n} rows-2 in
    let below : t < 2 ^ (2 ^ n) = omega arith in
    rw (lt-ltb t (2 ^ (2 ^ n)) below) refl

-- a shift of one by up to 63 is a power
pub shift_is : (n : ℕ) → n ≤ 63 → 1 * 2 ^ n % 18446744073709551616 ≡ 2 ^ n
shift_is n few =
    let below : 2 ^ n ≤ 2 ^ 63 = pow_mono {i = n} {j = 63} few in
    let below-2 : 2 ^ n ≤ 9223372036854775808 = below in
    omega arith

pub rows_fit : (n : ℕ) → n ≤ 5 → 2 ^ n ≤ 32
rows_fit n few = pow_mono {i = n} {j = 5} few

pub table_is : (t n : ℕ) → n ≤ 5 → nat_lt t (1 * 2 ^ (1 * 2 ^ n % 18446744073709551616) % 18446744073709551616) ≡ nat_lt t (2 ^ (2 ^ n))
table_is t n few =
    let rows = rows_fit n few in
    rw (shift_is n (omega arith), shift_is (2 ^ n) (omega arith)) refl
