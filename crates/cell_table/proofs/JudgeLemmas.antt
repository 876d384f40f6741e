use Rattle.std.proofs.Common.{◌≡◌, ◌==◌, ◌^◌, ◌<◌, ◌≤◌, ℕ, zero, suc, List, [], ◌∷◌, Bool, true, false, length, drop, get_or, arith, length-drop, drop-cons, lit<}
use Rattle.std.proofs.Math.Nat.{pow-le-pow_right, one-le-pow, pow-suc}
use Rattle.std.proofs.lemmas.Bool.Decides.{nat_tests}
use Rattle.facts.proofs.Tests.{left}
use Rattle.cell_table.specs.Build.{number_of}
use Rattle.cell_table.specs.Judge.{is_sized, outs_are_sized}
use Rattle.cell_table.specs.declared.written.WrittenOut.{WrittenOut}

-- a greater exponent gives no smaller power of two
power-le : (n m : ℕ) → n ≤ m → 2 ^ n ≤ 2 ^ m
power-le n m more = let some : 0 < 2 = lit< tt in pow-le-pow_right some more

-- a number of 64 bits is no greater power of two
pub not-power : (len inputs : ℕ) → len < 2 ^ 64 → 64 ≤ inputs → (len == 2 ^ inputs) ≡ false
not-power len inputs small large =
    let more : 2 ^ 64 ≤ 2 ^ inputs = power-le 64 inputs large in
    grind (arith, nat_tests)

pub ruleset powers = (not-power)

-- a table over at most 6 inputs has at most 64 bits
pub sized_is_short : (inputs : ℕ) (table : List Bool) → is_sized inputs table ≡ true → inputs ≤ 6 → length table ≤ 64
sized_is_short inputs table sized within =
    let bits : length table ≡ 2 ^ inputs = grind (arith, nat_tests) in
    let few : 2 ^ inputs ≤ 2 ^ 6 = power-le inputs 6 within in
    omega arith

-- of sized outputs from a place on, the one at the place is sized
pub output_is_short : (inputs : ℕ) (outputs : List WrittenOut) (at : ℕ) (output : WrittenOut) → output ≡ get_or outputs at output → at < length outputs → outs_are_sized inputs (drop at outputs) ≡ true → inputs ≤ 6 → length output.table ≤ 64
output_is_short inputs outputs at output there within sized few =
    let parts = rw (drop-cons outputs at output, ← there) at sized in
    sized_is_short inputs output.table (left _ _ parts) few

-- so many bits make a number below this power of two
pub number_of-below : (n : ℕ) (bits : List Bool) → length bits ≤ n → number_of bits < 2 ^ n
number_of-below n [] short = one-le-pow n 2 (lit< tt)
number_of-below zero (bit ∷ bits) short = absurd (let none : suc (length bits) ≤ 0 = short in omega arith)
number_of-below (suc n) (true ∷ bits) short =
    let fewer : length bits ≤ n = omega arith in
    let rest = number_of-below n bits fewer in
    let twice = pow-suc 2 n in
    omega arith
number_of-below (suc n) (false ∷ bits) short =
    let fewer : length bits ≤ n = omega arith in
    let rest = number_of-below n bits fewer in
    let twice = pow-suc 2 n in
    omega arith

-- all bits but the first of at most 64 make a number of 63 bits
pub number_of-rest : (bits : List Bool) (at : ℕ) → length bits ≤ 64 → 0 < at → number_of (drop at bits) < 2 ^ 63
number_of-rest bits at short later = number_of-below 63 (drop at bits) (omega (arith, length-drop at bits))

pub ruleset numbers = (number_of-rest)
