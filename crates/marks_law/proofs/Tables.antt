-- The table of a function computes the function.
use Rattle.std.proofs.Common.{◌≡◌, ℕ, zero, suc, ◌+◌, ◌*◌, ◌/◌, ◌%◌, ◌<◌, arith, Bool, true, false, List, [], ◌∷◌, length, map, refl, sym, ap, ◌∙◌}
use Rattle.std.specs.Prelude.{◌==◌, flat_map}
use Rattle.std.specs.Int.{bit_at}
use Rattle.std.proofs.lemmas.Nat.Bits.{bit_at_lowest, bit_at-suc, bit_at-zero}
use Rattle.design_core.specs.Operation.{number, bit, bit_of}
use Rattle.emu_machine.specs.Origins.{rows}
use Rattle.marks_law.specs.Gates.{TablesAreFunctions}

bit_small : (b : Bool) → bit b < 2
bit_small true = omega arith
bit_small false = omega arith

bit_one : (b : Bool) → (bit b == 1) ≡ b
bit_one true = refl
bit_one false = refl

halved : (b : Bool) (n : ℕ) → (bit b + 2 * n) / 2 ≡ n
halved b n = let low : bit b < 2 = bit_small b in omega arith

lowest : (b : Bool) (n : ℕ) → (bit b + 2 * n) % 2 ≡ bit b
lowest b n = let low : bit b < 2 = bit_small b in omega arith

-- bit 0 of a number of bits is the first of them, and the bits after it are those of the rest
first_bit : (b : Bool) (bs : List Bool) → bit_of (number (b ∷ bs)) 0 ≡ b
first_bit b bs = ap (λ n. n == 1) (bit_at_lowest (bit b + 2 * number bs) ∙ lowest b (number bs)) ∙ bit_one b

next_bit : (b : Bool) (bs : List Bool) (i : ℕ) → bit_of (number (b ∷ bs)) (suc i) ≡ bit_of (number bs) i
next_bit b bs i = ap (λ n. n == 1) (bit_at-suc (bit b + 2 * number bs) i ∙ ap (λ n. bit_at n i) (halved b (number bs)))

no_bit : (i : ℕ) → bit_of 0 i ≡ false
no_bit i = ap (λ n. n == 1) (bit_at-zero i)

abbrev doubled : List (List Bool) → List (List Bool)
doubled lists = flat_map (λ bits. (false ∷ bits) ∷ (true ∷ bits) ∷ []) lists

at_even : (i : ℕ) → 0 + 2 * suc i ≡ suc (suc (0 + 2 * i))
at_even i = omega arith

at_odd : (i : ℕ) → 1 + 2 * suc i ≡ suc (suc (1 + 2 * i))
at_odd i = omega arith

-- the rows of one more input stand in twos
in_twos : (f : List Bool → Bool) (lists : List (List Bool)) (b : Bool) (i : ℕ)
    → bit_of (number (map f (doubled lists))) (bit b + 2 * i) ≡ bit_of (number (map (λ bits. f (b ∷ bits)) lists)) i
in_twos f [] b i = no_bit (bit b + 2 * i) ∙ sym (no_bit i)
in_twos f (bits ∷ lists) false zero =
    first_bit (f (false ∷ bits)) (f (true ∷ bits) ∷ map f (doubled lists)) ∙ sym (first_bit (f (false ∷ bits)) (map (λ rest. f (false ∷ rest)) lists))
in_twos f (bits ∷ lists) true zero =
    next_bit (f (false ∷ bits)) (f (true ∷ bits) ∷ map f (doubled lists)) 0
    ∙ first_bit (f (true ∷ bits)) (map f (doubled lists))
    ∙ sym (first_bit (f (true ∷ bits)) (map (λ rest. f (true ∷ rest)) lists))
in_twos f (bits ∷ lists) false (suc i) =
    ap (bit_of (number (map f (doubled (bits ∷ lists))))) (at_even i)
    ∙ next_bit (f (false ∷ bits)) (f (true ∷ bits) ∷ map f (doubled lists)) (suc (0 + 2 * i))
    ∙ next_bit (f (true ∷ bits)) (map f (doubled lists)) (0 + 2 * i)
    ∙ in_twos f lists false i
    ∙ sym (next_bit (f (false ∷ bits)) (map (λ rest. f (false ∷ rest)) lists) i)
in_twos f (bits ∷ lists) true (suc i) =
    ap (bit_of (number (map f (doubled (bits ∷ lists))))) (at_odd i)
    ∙ next_bit (f (false ∷ bits)) (f (true ∷ bits) ∷ map f (doubled lists)) (suc (1 + 2 * i))
    ∙ next_bit (f (true ∷ bits)) (map f (doubled lists)) (1 + 2 * i)
    ∙ in_twos f lists true i
    ∙ sym (next_bit (f (true ∷ bits)) (map (λ rest. f (true ∷ rest)) lists) i)

pub tables_are_functions : TablesAreFunctions
tables_are_functions f [] = first_bit (f []) []
tables_are_functions f (b ∷ bits) = in_twos f (rows (length bits)) b (number bits) ∙ tables_are_functions (λ rest. f (b ∷ rest)) bits

-- the table of a constant, which reads nothing
pub constant_bit : (b : Bool) → bit_of (bit b) 0 ≡ b
constant_bit true = refl
constant_bit false = refl
