-- The value of digits is their sum.
use Rattle.std.proofs.Common.{◌≡◌, ℕ, zero, suc, ◌+◌, ◌-◌, ◌*◌, ◌^◌, ◌<◌, ◌≤◌, pow-suc, add-mul, mul_assoc, mul_comm, mul-one, arith, Bool, true, false, ◌⊎◌, inl, inr, List, [], ◌∷◌, ◌++◌, length, drop, fold, refl, subst, sym, ap, ◌∙◌, if◌then◌else◌}
use Rattle.std.proofs.Math.Nat.{pow-zero}
use Rattle.std.specs.Prelude.{◌==◌, nat_le, nat_lt, Some, slice_get, codes}
use Rattle.std.specs.List.{list_all}
use Rattle.std.specs.Char.{is_ascii_hexdigit}
use Rattle.std.proofs.lemmas.Bool.Decides.{nat_tests}
use Rattle.std.proofs.lemmas.Option.{same_Some}
use Rattle.facts.proofs.Tests.{below, left, right, same_number}
use Rattle.verilog_lex.specs.Bytes.{underscore}
use Rattle.verilog_lex.specs.Numbers.{digit_value, add_digit, value_of}
use Rattle.token_law.specs.Numbers.{Writes, Spells, empty, skips, writes, sum_of, IsSpelled}
use Rattle.token_law.proofs.Searches.{get_drop}

-- so many numbers from one on
ups : ℕ → ℕ → List ℕ
ups from zero = []
ups from (suc n) = from ∷ ups (from + 1) n

ups_at : (from n k : ℕ) (tail : List ℕ) → k < n → slice_get (ups from n ++ tail) k ≡ Some (from + k)
unfolding ups
ups_at from zero k tail less = absurd (omega arith)
ups_at from (suc n) zero tail less = let same : from ≡ from + 0 = omega arith in ap Some same
ups_at from (suc n) (suc k) tail less =
    let same : from + 1 + k ≡ from + suc k = omega arith in
    ups_at (from + 1) n k tail (omega arith) ∙ ap Some same

lower : codes "0123456789abcdef" ≡ ups 48 10 ++ ups 97 6
unfolding ups
lower = refl

figure : (b : ℕ) → 48 ≤ b → b ≤ 57 → slice_get (codes "0123456789abcdef") (b - 48) ≡ Some b
figure b low high =
    let same : 48 + (b - 48) ≡ b = omega arith in
    ap (λ xs. slice_get xs (b - 48)) lower ∙ ups_at 48 10 (b - 48) (ups 97 6) (omega arith) ∙ ap Some same

upper : codes "0123456789ABCDEF" ≡ ups 48 10 ++ ups 65 6
unfolding ups
upper = refl

lower_letters : drop 10 (codes "0123456789abcdef") ≡ ups 97 6 ++ []
unfolding ups
lower_letters = refl

upper_letters : drop 10 (codes "0123456789ABCDEF") ≡ ups 65 6 ++ []
unfolding ups
upper_letters = refl

lower_letter : (b : ℕ) → 97 ≤ b → b ≤ 102 → slice_get (codes "0123456789abcdef") (b - 97 + 10) ≡ Some b
lower_letter b low high =
    let place : b - 97 + 10 ≡ 10 + (b - 97) = omega arith in
    let same : 97 + (b - 97) ≡ b = omega arith in
    sym (get_drop 10 (codes "0123456789abcdef") (b - 97) (b - 97 + 10) place) ∙ ap (λ xs. slice_get xs (b - 97)) lower_letters ∙ ups_at 97 6 (b - 97) [] (omega arith) ∙ ap Some same

upper_letter : (b : ℕ) → 65 ≤ b → b ≤ 70 → slice_get (codes "0123456789ABCDEF") (b - 65 + 10) ≡ Some b
upper_letter b low high =
    let place : b - 65 + 10 ≡ 10 + (b - 65) = omega arith in
    let same : 65 + (b - 65) ≡ b = omega arith in
    sym (get_drop 10 (codes "0123456789ABCDEF") (b - 65) (b - 65 + 10) place) ∙ ap (λ xs. slice_get xs (b - 65)) upper_letters ∙ ups_at 65 6 (b - 65) [] (omega arith) ∙ ap Some same

-- a byte is an `_`, or it writes its digit
abbrev pub Fits : ℕ → ℕ → Type 0
Fits base b = (b ≡ underscore) ⊎ (((b == underscore) ≡ false) × Writes base b (digit_value b))

-- a figure writes what it is worth, in each base that has it
pub figure_fits : (base b : ℕ) → 48 ≤ b → b ≤ 57 → b - 48 < base → Fits base b
figure_fits base b low high small =
    let is : b - 48 ≡ digit_value b = grind (arith, nat_tests) in
    let other : (b == underscore) ≡ false = grind (arith, nat_tests) in
    inr (other, subst (Writes base b) is (record { small = small; at = inl (figure b low high) }))

pub hex_fits : (b : ℕ) → is_ascii_hexdigit b ≡ true → Fits 16 b
hex_fits b e = go (nat_le b 57) refl (nat_le b 70) refl
  where
    go : (c : Bool) → nat_le b 57 ≡ c → (d : Bool) → nat_le b 70 ≡ d → Fits 16 b
    go true small d f =
        let low : 48 ≤ b = grind (arith, nat_tests) in
        let high : b ≤ 57 = grind (arith, nat_tests) in
        figure_fits 16 b low high (omega arith)
    go false large true f =
        let low : 65 ≤ b = grind (arith, nat_tests) in
        let high : b ≤ 70 = grind (arith, nat_tests) in
        let is : b - 65 + 10 ≡ digit_value b = grind (arith, nat_tests) in
        let other : (b == underscore) ≡ false = grind (arith, nat_tests) in
        inr (other, subst (Writes 16 b) is (record { small = omega arith; at = inr (upper_letter b low high) }))
    go false large false f =
        let low : 97 ≤ b = grind (arith, nat_tests) in
        let high : b ≤ 102 = grind (arith, nat_tests) in
        let is : b - 97 + 10 ≡ digit_value b = grind (arith, nat_tests) in
        let other : (b == underscore) ≡ false = grind (arith, nat_tests) in
        inr (other, subst (Writes 16 b) is (record { small = omega arith; at = inl (lower_letter b low high) }))

-- digits of a base that bytes spell, with what they add to a value before them
pub record Sums (base : ℕ) (bytes : List ℕ) : Type 0 where
  pub digits : List ℕ
  pub spelled : Spells base bytes digits
  pub adds : (value : ℕ) → fold (add_digit base) value bytes ≡ value * base ^ length digits + sum_of base digits

shifted : (base value digit n sum : ℕ) → (value * base + digit) * base ^ n + sum ≡ value * base ^ suc n + (digit * base ^ n + sum)
shifted base value digit n sum =
    let power : base ^ suc n ≡ base * base ^ n = pow-suc base n ∙ mul_comm (base ^ n) base in
    let spread : (value * base + digit) * base ^ n ≡ value * base * base ^ n + digit * base ^ n = add-mul (value * base) digit (base ^ n) in
    let order : value * base * base ^ n ≡ value * (base * base ^ n) = mul_assoc value base (base ^ n) in
    let all : value * base ^ suc n ≡ value * (base * base ^ n) = ap (λ p. value * p) power in
    omega (arith, spread, order, all)

pub sums : (base : ℕ) (p : ℕ → Bool) → ((b : ℕ) → p b ≡ true → Fits base b) → (bytes : List ℕ) → list_all p bytes ≡ true → Sums base bytes
sums base p fits [] e = record { digits = []; spelled = empty; adds = λ value. let one : value * base ^ 0 ≡ value = ap (λ p. value * p) (pow-zero base) ∙ mul-one value in omega (arith, one) }
sums base p fits (b ∷ bytes) e = go (fits b (left (p b) (list_all p bytes) e)) (sums base p fits bytes (right (p b) (list_all p bytes) e))
  where
    go : Fits base b → Sums base bytes → Sums base (b ∷ bytes)
    go (inl same) s =
        record {
          digits = s.digits;
          spelled = subst (λ c. Spells base (c ∷ bytes) s.digits) (sym same) (skips bytes s.digits s.spelled);
          adds = λ value.
              ap (λ c. fold (add_digit base) (if c then value else value * base + digit_value b) bytes) (same_number b underscore same) ∙ s.adds value;
        }
    go (inr other) s =
        record {
          digits = digit_value b ∷ s.digits;
          spelled = writes b (digit_value b) bytes s.digits other.1 s.spelled;
          adds = λ value.
              ap (λ c. fold (add_digit base) (if c then value else value * base + digit_value b) bytes) other.0
              ∙ s.adds (value * base + digit_value b)
              ∙ shifted base value (digit_value b) (length s.digits) (sum_of base s.digits);
        }

-- bytes of digits and `_` spell their value
pub is_spelled : (base : ℕ) (p : ℕ → Bool) → ((b : ℕ) → p b ≡ true → Fits base b) → (bytes : List ℕ) → list_all p bytes ≡ true → IsSpelled base bytes (value_of base bytes)
is_spelled base p fits bytes e =
    let s = sums base p fits bytes e in
    let zeros : 0 * base ^ length s.digits + sum_of base s.digits ≡ sum_of base s.digits = omega arith in
    record { digits = s.digits; spelled = s.spelled; sum = s.adds 0 ∙ zeros }

-- ## What a byte is that writes a digit

-- a byte that writes a digit below 16 is a figure, or one of the letters behind the figures
pub data IsFigure (b digit : ℕ) : Type 0 where
  figure_is : digit < 10 → b ≡ 48 + digit → IsFigure b digit
  lower_is : 10 ≤ digit → b ≡ 87 + digit → IsFigure b digit
  upper_is : 10 ≤ digit → b ≡ 55 + digit → IsFigure b digit

below_ten : (b digit : ℕ) (text tail : List ℕ) → digit < 10 → text ≡ ups 48 10 ++ tail → slice_get text digit ≡ Some b → b ≡ 48 + digit
below_ten b digit text tail small e at = sym (same_Some (48 + digit) b (sym (ups_at 48 10 digit tail small) ∙ ap (λ xs. slice_get xs digit) (sym e) ∙ at))

above_ten : (b digit first : ℕ) (text : List ℕ) → 10 ≤ digit → digit < 16 → drop 10 text ≡ ups first 6 ++ [] → slice_get text digit ≡ Some b → b ≡ first + (digit - 10)
above_ten b digit first text large small e at =
    let place : digit ≡ 10 + (digit - 10) = omega arith in
    sym (same_Some (first + (digit - 10)) b (sym (ups_at first 6 (digit - 10) [] (omega arith)) ∙ ap (λ xs. slice_get xs (digit - 10)) (sym e) ∙ get_drop 10 text (digit - 10) digit place ∙ at))

pub is_figure : (base b digit : ℕ) → base ≤ 16 → Writes base b digit → IsFigure b digit
is_figure base b digit le w = go (nat_lt digit 10) refl w.at
  where
    below_base : digit < base
    below_base = w.small

    go : (c : Bool) → nat_lt digit 10 ≡ c → (slice_get (codes "0123456789abcdef") digit ≡ Some b) ⊎ (slice_get (codes "0123456789ABCDEF") digit ≡ Some b) → IsFigure b digit
    go true e (inl at) = let small = below digit 10 e in figure_is small (below_ten b digit (codes "0123456789abcdef") (ups 97 6) small lower at)
    go true e (inr at) = let small = below digit 10 e in figure_is small (below_ten b digit (codes "0123456789ABCDEF") (ups 65 6) small upper at)
    go false e (inl at) =
        let large : 10 ≤ digit = grind (arith, nat_tests) in
        let is = above_ten b digit 97 (codes "0123456789abcdef") large (omega (arith, below_base)) lower_letters at in
        lower_is large (omega (arith, is))
    go false e (inr at) =
        let large : 10 ≤ digit = grind (arith, nat_tests) in
        let is = above_ten b digit 65 (codes "0123456789ABCDEF") large (omega (arith, below_base)) upper_letters at in
        upper_is large (omega (arith, is))
