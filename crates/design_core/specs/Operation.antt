-- What a gate gives for the values of its inputs.
-- The rule is told in docs/RULES.md, "Gates".
use Rattle.std.specs.Prelude.{ℕ, ◌+◌, ◌*◌, ◌%◌, ◌==◌, Bool, true, false, not, List, [], ◌∷◌, count_by}
use Rattle.std.specs.List.{list_any, list_all}
use Rattle.std.specs.Int.{bit_at}
use Rattle.design_core.specs.declared.operation.Op.{Op}
use Rattle.design_core.specs.declared.operation.Op.TheVariants.{And, Nand, Or, Nor, Xor, Xnor, Buf, Not, Table}

-- a value as a number
abbrev pub bit : Bool → ℕ
bit true = 1
bit false = 0

-- the number that has these bits, from bit 0
abbrev pub number : List Bool → ℕ
number [] = 0
number (b ∷ bs) = bit b + 2 * number bs

-- bit `k` of a number
abbrev pub bit_of : ℕ → ℕ → Bool
bit_of n k = bit_at n k == 1

-- whether all, some, or an odd number of the values are 1
abbrev pub all_ones : List Bool → Bool
all_ones = list_all (λ b. b)

abbrev pub some_one : List Bool → Bool
some_one = list_any (λ b. b)

abbrev pub odd_ones : List Bool → Bool
odd_ones bs = count_by (λ b. b) bs % 2 == 1

-- the value of the only input
abbrev pub only_value : List Bool → Bool
only_value [] = false
only_value (b ∷ bs) = b

-- a table is read at the number whose bits the inputs are
abbrev pub op_value : Op → List Bool → Bool
op_value And bs = all_ones bs
op_value Nand bs = not (all_ones bs)
op_value Or bs = some_one bs
op_value Nor bs = not (some_one bs)
op_value Xor bs = odd_ones bs
op_value Xnor bs = not (odd_ones bs)
op_value Buf bs = only_value bs
op_value Not bs = not (only_value bs)
op_value (Table table) bs = bit_of table (number bs)
