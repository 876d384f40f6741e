-- A value only grows with more digits.
use Rattle.std.proofs.Common.{◌≡◌, ℕ, ◌+◌, ◌^◌, ◌<◌, ◌≤◌, List, [], ◌∷◌, length, get_or, drop, fold, refl, arith}
use Rattle.std.proofs.lemmas.Bool.Decides.{nat_tests}
use Rattle.std.proofs.lemmas.List.{drop_more}
use Rattle.verilog_lex.specs.declared.bytes.Base.{Base}
use Rattle.verilog_lex.specs.declared.bytes.Base.TheVariants.{Binary, Octal, Decimal, Hexadecimal}
use Rattle.verilog_lex.specs.Numbers.{add_digit, radix_of, value_of}

-- a base has one digit at least
pub radix_of-positive : (base : Base) → 1 ≤ radix_of base
radix_of-positive Binary = omega arith
radix_of-positive Octal = omega arith
radix_of-positive Decimal = omega arith
radix_of-positive Hexadecimal = omega arith

pub le-add_digit : (radix value d : ℕ) → 1 ≤ radix → value ≤ add_digit radix value d
le-add_digit radix value d h = grind (arith, nat_tests)

pub le-fold : (radix value : ℕ) (digits : List ℕ) → 1 ≤ radix → value ≤ fold (add_digit radix) value digits
le-fold radix value [] h = omega arith
le-fold radix value (d ∷ digits) h =
    let one = le-add_digit radix value d h in
    let more = le-fold radix (add_digit radix value d) digits h in
    omega (arith, one, more)

-- digits whose value passes a bound on the way pass it in the end
pub le-value_of : (radix value k bound : ℕ) (digits : List ℕ) → 1 ≤ radix → k < length digits → fold (add_digit radix) value (drop k digits) ≡ value_of radix digits → bound ≤ add_digit radix value (get_or digits k 0) → bound ≤ value_of radix digits
le-value_of radix value k bound digits h inside is passed =
    let step = drop_more digits k 0 inside in
    let more = le-fold radix (add_digit radix value (get_or digits k 0)) (drop (k + 1) digits) h in
    rw (← is, step) (omega (arith, more))

pub value_of-overflow : (base : Base) (radix value k : ℕ) (digits : List ℕ) → radix ≡ radix_of base → k < length digits → fold (add_digit radix) value (drop k digits) ≡ value_of radix digits → ¬ (add_digit radix value (get_or digits k 0) < 2 ^ 128) → ¬ (value_of (radix_of base) digits < 2 ^ 128)
value_of-overflow base radix value k digits e inside is passed small =
    let positive : 1 ≤ radix = rw e (radix_of-positive base) in
    let more = le-value_of radix value k (2 ^ 128) digits positive inside is (omega (arith, passed)) in
    let same : value_of radix digits ≡ value_of (radix_of base) digits = rw e refl in
    absurd (omega (arith, more, same, small))
