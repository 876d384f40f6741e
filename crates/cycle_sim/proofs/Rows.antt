-- The row of a table, input by input.
use Rattle.std.proofs.Common.{◌≡◌, ◌<◌, ◌≤◌, ◌+◌, ◌*◌, ◌^◌, ℕ, suc, Bool, true, false, List, drop, length, get_or, ap, sym, ◌∙◌, arith, pow-suc}
use Rattle.std.specs.Prelude.{All}
use Rattle.std.proofs.lemmas.List.{drop_more}
use Rattle.std.proofs.lemmas.List.Elements.{All-rest}
use Rattle.std.proofs.Math.Nat.{mul-add, mul_assoc}
use Rattle.std.proofs.Math.Pow.{pow_mono}
use Rattle.id_arena.specs.declared.keys.ChipNetId.{ChipNetId}
use Rattle.design_core.specs.Operation.{bit, number}
use Rattle.cycle_sim.specs.Standing.{IsThere}
use Rattle.cycle_sim.specs.Values.{values_in}

-- the row so far, after one more input
pub grown : (b : Bool) (row next weight rest all : ℕ) → row + weight * (bit b + 2 * rest) ≡ all → next ≡ row + weight * bit b → next + weight * 2 * rest ≡ all
grown b row next weight rest all h e =
    let parts : weight * (bit b + 2 * rest) ≡ weight * bit b + weight * (2 * rest) = mul-add weight (bit b) (2 * rest) in
    let turned : weight * (2 * rest) ≡ weight * 2 * rest = sym (mul_assoc weight 2 rest) in
    omega arith

module _ (table : List Bool) (inputs : List ChipNetId) (i : ℕ) (less : i < length inputs) where
  abbrev here : Bool
  here = get_or table (get_or inputs i (record { place = 0 })).place false

  pub next_row : (row next weight all : ℕ)
      → row + weight * number (values_in table (drop i inputs)) ≡ all
      → next ≡ row + weight * bit here
      → next + weight * 2 * number (values_in table (drop (i + 1) inputs)) ≡ all
  next_row row next weight all h e =
      let front : number (values_in table (drop i inputs)) ≡ bit here + 2 * number (values_in table (drop (i + 1) inputs)) =
      ap (λ ns. number (values_in table ns)) (drop_more inputs i (record { place = 0 }) less) in
      grown here row next weight (number (values_in table (drop (i + 1) inputs))) all (ap (λ (k : ℕ). row + weight * k) (sym front) ∙ h) e

pub added : (b : Bool) (row next weight : ℕ) → b ≡ true → next ≡ row + weight → next ≡ row + weight * bit b
added b row next weight t e =
    let one : weight * bit b ≡ weight * 1 = ap (λ x. weight * bit x) t in
    omega arith

pub passed_over : (b : Bool) (row next weight : ℕ) → b ≡ false → next ≡ row → next ≡ row + weight * bit b
passed_over b row next weight t e =
    let none : weight * bit b ≡ weight * 0 = ap (λ x. weight * bit x) t in
    omega arith

-- the row so far is below its next weight
pub stays_low : (b : Bool) (row next weight : ℕ) → row < weight → next ≡ row + weight * bit b → next < weight * 2
stays_low true row next weight low e = omega arith
stays_low false row next weight low e = omega arith

pub doubled : (i weight : ℕ) → weight ≡ 2 ^ i → weight * 2 ≡ 2 ^ (i + 1)
doubled i weight h =
    let one : suc i ≡ i + 1 = omega arith in
    let twice : weight * 2 ≡ 2 ^ suc i = omega (arith, pow-suc 2 i) in
    twice ∙ ap (λ (k : ℕ). 2 ^ k) one

pub power : (i : ℕ) → i ≤ 6 → 2 ^ i ≤ 64
power i few = pow_mono few

-- what is there of all that is left is there of what is left after the next
pub rest_there : (nets : ℕ) (inputs : List ChipNetId) (i : ℕ) → i < length inputs → All (IsThere nets) (drop i inputs) → All (IsThere nets) (drop (i + 1) inputs)
rest_there nets inputs i less h =
    All-rest (IsThere nets) (get_or inputs i (record { place = 0 })) (drop (i + 1) inputs) (drop i inputs) (drop_more inputs i (record { place = 0 }) less) h
