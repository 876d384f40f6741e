-- Hexadecimal digits, from the last.
use Rattle.std.proofs.Common.{◌≡◌, ◌≢◌, ◌+◌, ◌-◌, ◌*◌, ◌/◌, ◌%◌, ◌<◌, ◌≤◌, ◌^◌, ◌⊎◌, inl, inr, ℕ, zero, suc, Bool, true, false, Option, Some, None, List, [], ◌∷◌, ◌++◌, length, take, get_or, refl, sym, ap, ◌∙◌, subst, arith}
use Rattle.std.specs.Prelude.{MatchOption, ◌==◌, if◌then◌else◌}
use Rattle.std.specs.Fmt.{digit_glyph, digits, digits_onto}
use Rattle.std.specs.Str.Parse.{digits_value}
use Rattle.std.proofs.lemmas.Bool.{cases_lt}
use Rattle.std.proofs.lemmas.Bool.Decides.{nat_tests}
use Rattle.std.proofs.lemmas.Fmt.{digits_is_IsNumeral, hex_one_digit}
use Rattle.std.proofs.lemmas.List.{length-append, length-take-le, take_all, take_more}
use Rattle.std.proofs.Math.Nat.{pow-suc}
use Rattle.netlist_writer.specs.NetlistText.{hex}

digits_onto-nil : (n : ℕ) → digits_onto 64 16 false n [] ≡ hex n
unfolding digits
digits_onto-nil n = refl

picked : (k n : ℕ) (acc : List ℕ) (b : Bool) → (n / 16 == 0) ≡ b → digits_onto (suc k) 16 false n acc ≡ (if b then digit_glyph false (n % 16) ∷ acc else digits_onto k 16 false (n / 16) (digit_glyph false (n % 16) ∷ acc))
picked k n acc b e = ap (λ t. if t then digit_glyph false (n % 16) ∷ acc else digits_onto k 16 false (n / 16) (digit_glyph false (n % 16) ∷ acc)) e

onto_last : (k n : ℕ) (acc : List ℕ) → n < 16 → digits_onto (suc k) 16 false n acc ≡ digit_glyph false (n % 16) ∷ acc
onto_last k n acc small = (let none : n / 16 ≡ 0 = omega arith in picked k n acc true (grind (arith, nat_tests)))

onto_step : (k n : ℕ) (acc : List ℕ) → 16 ≤ n → digits_onto (suc k) 16 false n acc ≡ digits_onto k 16 false (n / 16) (digit_glyph false (n % 16) ∷ acc)
onto_step k n acc large = (let some : 0 < n / 16 = omega arith in picked k n acc false (grind (arith, nat_tests)))

-- the digits before what stands there
onto_append : (k n : ℕ) (acc : List ℕ) → digits_onto k 16 false n acc ≡ digits_onto k 16 false n [] ++ acc
onto_append zero n acc = refl
onto_append (suc k) n acc = go (cases_lt n 16) (onto_append k (n / 16))
  where
    joined : (ds : List ℕ) (g : ℕ) → ds ++ g ∷ acc ≡ (ds ++ g ∷ []) ++ acc
    joined [] g = refl
    joined (d ∷ ds) g = ap (λ rest. d ∷ rest) (joined ds g)

    go : (n < 16) ⊎ (16 ≤ n) → ((a : List ℕ) → digits_onto k 16 false (n / 16) a ≡ digits_onto k 16 false (n / 16) [] ++ a) → digits_onto (suc k) 16 false n acc ≡ digits_onto (suc k) 16 false n [] ++ acc
    go (inl small) before = onto_last k n acc small ∙ ap (λ ds. ds ++ acc) (sym (onto_last k n [] small))
    go (inr large) before =
        onto_step k n acc large
        ∙ before (digit_glyph false (n % 16) ∷ acc)
        ∙ joined (digits_onto k 16 false (n / 16) []) (digit_glyph false (n % 16))
        ∙ ap (λ ds. ds ++ acc) (sym (before (digit_glyph false (n % 16) ∷ [])))
        ∙ ap (λ ds. ds ++ acc) (sym (onto_step k n [] large))

-- more room for digits changes nothing
more_room : (k n : ℕ) (acc : List ℕ) → 0 < k → n < 16 ^ k → digits_onto (suc k) 16 false n acc ≡ digits_onto k 16 false n acc
more_room zero n acc some small = absurd (omega arith)
more_room (suc k) n acc some small = go (cases_lt n 16) (more_room k (n / 16))
  where
    below : (j : ℕ) → n < 16 ^ (suc j) → n / 16 < 16 ^ j
    below j fits = (let power = pow-suc 16 j in omega (arith, power))

    some_left : (j : ℕ) → 16 ≤ n → n < 16 ^ (suc j) → 0 < j
    some_left zero large fits = absurd (omega arith)
    some_left (suc j) large fits = omega arith

    go : (n < 16) ⊎ (16 ≤ n) → ((a : List ℕ) → 0 < k → n / 16 < 16 ^ k → digits_onto (suc k) 16 false (n / 16) a ≡ digits_onto k 16 false (n / 16) a) → digits_onto (suc (suc k)) 16 false n acc ≡ digits_onto (suc k) 16 false n acc
    go (inl less) before = onto_last (suc k) n acc less ∙ sym (onto_last k n acc less)
    go (inr large) before =
        onto_step (suc k) n acc large
        ∙ before (digit_glyph false (n % 16) ∷ acc) (some_left k large small) (below k small)
        ∙ sym (onto_step k n acc large)

pub hex_step : (n : ℕ) → 16 ≤ n → n < 2 ^ 64 → hex n ≡ hex (n / 16) ++ digit_glyph false (n % 16) ∷ []
hex_step n large small =
    sym (digits_onto-nil n) ∙ onto_step 63 n [] large
    ∙ onto_append 63 (n / 16) (digit_glyph false (n % 16) ∷ [])
    ∙ ap (λ ds. ds ++ digit_glyph false (n % 16) ∷ []) (sym (more_room 63 (n / 16) [] (omega arith) (omega arith)) ∙ digits_onto-nil (n / 16))

pub hex_one : (n : ℕ) → n < 16 → hex n ≡ digit_glyph false n ∷ []
hex_one n small = hex_one_digit false n small

-- what the digits of a number are
pub hex_parts : (n : ℕ) → n < 2 ^ 64 → ((n < 16) × (hex n ≡ digit_glyph false n ∷ [])) ⊎ ((16 ≤ n) × (hex n ≡ hex (n / 16) ++ digit_glyph false (n % 16) ∷ []))
hex_parts n small = go (cases_lt n 16)
  where
    go : (n < 16) ⊎ (16 ≤ n) → ((n < 16) × (hex n ≡ digit_glyph false n ∷ [])) ⊎ ((16 ≤ n) × (hex n ≡ hex (n / 16) ++ digit_glyph false (n % 16) ∷ []))
    go (inl less) = inl (less, hex_one n less)
    go (inr large) = inr (large, hex_step n large small)

pub hex_some : (n : ℕ) → n < 2 ^ 64 → 0 < length (hex n)
hex_some n small = (let numeral = digits_is_IsNumeral 16 false (omega arith) (omega arith) n (omega arith) in numeral.0.0)

pub hex_injective : (m n : ℕ) → m < 2 ^ 64 → n < 2 ^ 64 → hex m ≡ hex n → m ≡ n
hex_injective m n small small-2 e =
    let first = digits_is_IsNumeral 16 false (omega arith) (omega arith) m (omega arith) in
    let second = digits_is_IsNumeral 16 false (omega arith) (omega arith) n (omega arith) in
    sym first.1 ∙ ap (digits_value 16) e ∙ second.1

pub hex_size : (k n : ℕ) → 0 < k → n < 16 ^ k → n < 2 ^ 64 → length (hex n) ≤ k
hex_size zero n some fits small = absurd (omega arith)
hex_size (suc k) n some fits small = go (hex_parts n small) (hex_size k (n / 16))
  where
    go : ((n < 16) × (hex n ≡ digit_glyph false n ∷ [])) ⊎ ((16 ≤ n) × (hex n ≡ hex (n / 16) ++ digit_glyph false (n % 16) ∷ [])) → (0 < k → n / 16 < 16 ^ k → n / 16 < 2 ^ 64 → length (hex (n / 16)) ≤ k) → length (hex n) ≤ suc k
    go (inl less) before = (let size : length (hex n) ≡ 1 = ap length less.1 in omega arith)
    go (inr large) before =
        let power = pow-suc 16 k in
        let size : length (hex n) ≡ length (hex (n / 16) ++ digit_glyph false (n % 16) ∷ []) = ap length large.1 in
        let sizes = length-append (hex (n / 16)) (digit_glyph false (n % 16) ∷ []) in
        let front = before (left k fits large.0) (omega (arith, power)) (omega arith) in
        omega arith
      where
        left : (j : ℕ) → n < 16 ^ (suc j) → 16 ≤ n → 0 < j
        left zero f l = absurd (omega arith)
        left (suc j) f l = omega arith

pub too_long : (digits : List ℕ) → 16 < length digits → (n : ℕ) → n < 2 ^ 64 → digits ≢ hex n
too_long digits long n small e =
    let size = hex_size 16 n (omega arith) (omega arith) small in
    let same : length digits ≡ length (hex n) = ap length e in
    omega arith

-- one byte
pub no_one : (byte : ℕ) → ((d : ℕ) → d < 16 → byte ≢ digit_glyph false d) → (n : ℕ) → n < 2 ^ 64 → (byte ∷ []) ≢ hex n
no_one byte none n small e = go (hex_parts n small)
  where
    go : ((n < 16) × (hex n ≡ digit_glyph false n ∷ [])) ⊎ ((16 ≤ n) × (hex n ≡ hex (n / 16) ++ digit_glyph false (n % 16) ∷ [])) → ⊥
    go (inl less) = (let both : (byte ∷ []) ≡ digit_glyph false n ∷ [] = e ∙ less.1 in none n less.0 (cc))
    go (inr large) =
        let some = hex_some (n / 16) (omega arith) in
        let size : 1 ≡ length (hex (n / 16) ++ digit_glyph false (n % 16) ∷ []) = ap length (e ∙ large.1) in
        let sizes = length-append (hex (n / 16)) (digit_glyph false (n % 16) ∷ []) in
        omega arith

ends_same : (xs ys : List ℕ) (x y : ℕ) → xs ++ x ∷ [] ≡ ys ++ y ∷ [] → (xs ≡ ys) × (x ≡ y)
ends_same [] [] x y e = (refl, (cc))
ends_same [] (b ∷ ys) x y e = absurd (let size : 1 ≡ suc (length (ys ++ y ∷ [])) = ap length e in let sizes = length-append ys (y ∷ []) in omega arith)
ends_same (a ∷ xs) [] x y e = absurd (let size : suc (length (xs ++ x ∷ [])) ≡ 1 = ap length e in let sizes = length-append xs (x ∷ []) in omega arith)
ends_same (a ∷ xs) (b ∷ ys) x y e =
    let tails : xs ++ x ∷ [] ≡ ys ++ y ∷ [] = cc in
    let first : a ≡ b = cc in
    let rest = ends_same xs ys x y tails in
    (λ i. first i ∷ rest.0 i, rest.1)

-- a number of two digits or more
pub last_parts : (front : List ℕ) (last n : ℕ) → 0 < length front → n < 2 ^ 64 → front ++ last ∷ [] ≡ hex n → (16 ≤ n) × (front ≡ hex (n / 16)) × (last ≡ digit_glyph false (n % 16))
last_parts front last n some small e = go (hex_parts n small)
  where
    go : ((n < 16) × (hex n ≡ digit_glyph false n ∷ [])) ⊎ ((16 ≤ n) × (hex n ≡ hex (n / 16) ++ digit_glyph false (n % 16) ∷ [])) → (16 ≤ n) × (front ≡ hex (n / 16)) × (last ≡ digit_glyph false (n % 16))
    go (inl less) =
        let size : length (front ++ last ∷ []) ≡ 1 = ap length (e ∙ less.1) in
        let sizes = length-append front (last ∷ []) in
        absurd (omega arith)
    go (inr large) = (let both = ends_same front (hex (n / 16)) last (digit_glyph false (n % 16)) (e ∙ large.1) in (large.0, both.0, both.1))

pub glyphs : (d e : ℕ) → d < 16 → e < 16 → digit_glyph false d ≡ digit_glyph false e → d ≡ e
glyphs d e small small-2 same = grind (arith, nat_tests)

pub no_front : (front : List ℕ) (last : ℕ) → 0 < length front → ((n : ℕ) → n < 2 ^ 64 → front ≢ hex n) → (n : ℕ) → n < 2 ^ 64 → front ++ last ∷ [] ≢ hex n
no_front front last some none n small e = (let parts = last_parts front last n some small e in none (n / 16) (omega arith) parts.1)

pub no_last : (front : List ℕ) (last : ℕ) → 0 < length front → ((d : ℕ) → d < 16 → last ≢ digit_glyph false d) → (n : ℕ) → n < 2 ^ 64 → front ++ last ∷ [] ≢ hex n
no_last front last some none n small e = (let parts = last_parts front last n some small e in none (n % 16) (omega arith) parts.2)

pub joined_value : (front : List ℕ) (last value digit : ℕ) (found : Option ℕ) → 0 < length front → value < 2 ^ 64 → front ≡ hex value → digit < 16 → last ≡ digit_glyph false digit → MatchOption found ((value ≡ 0) ⊎ (2 ^ 64 ≤ value * 16 + digit)) (λ n. (0 < value) × (n ≡ value * 16 + digit) × (n < 2 ^ 64)) → MatchOption found ((n : ℕ) → n < 2 ^ 64 → front ++ last ∷ [] ≢ hex n) (λ n. (n < 2 ^ 64) × (front ++ last ∷ [] ≡ hex n))
joined_value front last value digit None some fits is small is-2 none = λ n n-small e.
    let parts = last_parts front last n some n-small e in
    let values = hex_injective value (n / 16) fits (omega arith) (sym is ∙ parts.1) in
    let ends = glyphs digit (n % 16) small (omega arith) (sym is-2 ∙ parts.2) in
    go none n parts.0 values ends n-small
  where
    go : (value ≡ 0) ⊎ (2 ^ 64 ≤ value * 16 + digit) → (n : ℕ) → 16 ≤ n → value ≡ n / 16 → digit ≡ n % 16 → n < 2 ^ 64 → ⊥
    go (inl zero-is) n large v d s = omega arith
    go (inr over) n large v d s = omega arith
joined_value front last value digit (Some n) some fits is small is-2 found = (
  found.2,
  (let quotient : value ≡ n / 16 = omega (arith, found.1) in
      let rest : digit ≡ n % 16 = omega (arith, found.1) in
      ap (λ ds. ds ++ last ∷ []) (is ∙ ap hex quotient) ∙ ap (λ b. hex (n / 16) ++ b ∷ []) (is-2 ∙ ap (digit_glyph false) rest)
      ∙ sym (hex_step n (omega (arith, found.0, found.1)) found.2)),
)

pub one_there : (byte digit value : ℕ) → value ≡ digit → (digit < 16) × (byte ≡ digit_glyph false digit) → (value < 2 ^ 64) × ((byte ∷ []) ≡ hex value)
one_there byte digit value e is =
    let small = is.0 in
    (omega arith, (λ i. is.1 i ∷ []) ∙ sym (hex_one digit is.0) ∙ ap hex (sym e))

-- the digits before the last, and the last
pub split_last : (ds : List ℕ) → 2 ≤ length ds → ds ≡ take (length ds - 1) ds ++ get_or ds (length ds - 1) 0 ∷ []
split_last ds size =
    let end : length ds - 1 + 1 ≡ length ds = omega arith in
    sym (take_all (length ds - 1 + 1) ds (omega arith)) ∙ take_more ds (length ds - 1) 0 (omega arith)

some_front : (ds : List ℕ) → 2 ≤ length ds → 0 < length (take (length ds - 1) ds)
some_front ds size = (let front = length-take-le (length ds - 1) ds (omega arith) in omega arith)

pub none_front : (ds : List ℕ) → 2 ≤ length ds → ((n : ℕ) → n < 2 ^ 64 → take (length ds - 1) ds ≢ hex n) → (n : ℕ) → n < 2 ^ 64 → ds ≢ hex n
none_front ds size none n small e = no_front (take (length ds - 1) ds) (get_or ds (length ds - 1) 0) (some_front ds size) none n small (sym (split_last ds size) ∙ e)

pub none_last : (ds : List ℕ) → 2 ≤ length ds → ((d : ℕ) → d < 16 → get_or ds (length ds - 1) 0 ≢ digit_glyph false d) → (n : ℕ) → n < 2 ^ 64 → ds ≢ hex n
none_last ds size none n small e = no_last (take (length ds - 1) ds) (get_or ds (length ds - 1) 0) (some_front ds size) none n small (sym (split_last ds size) ∙ e)

pub none_empty : (ds : List ℕ) → length ds < 1 → (n : ℕ) → n < 2 ^ 64 → ds ≢ hex n
none_empty ds size n small e = (let some = hex_some n small in let same : length ds ≡ length (hex n) = ap length e in omega arith)

pub value_is : (ds : List ℕ) (value digit : ℕ) (found : Option ℕ) → 2 ≤ length ds → (value < 2 ^ 64) × (take (length ds - 1) ds ≡ hex value) → (digit < 16) × (get_or ds (length ds - 1) 0 ≡ digit_glyph false digit) → MatchOption found ((value ≡ 0) ⊎ (2 ^ 64 ≤ value * 16 + digit)) (λ n. (0 < value) × (n ≡ value * 16 + digit) × (n < 2 ^ 64)) → MatchOption found ((n : ℕ) → n < 2 ^ 64 → ds ≢ hex n) (λ n. (n < 2 ^ 64) × (ds ≡ hex n))
value_is ds value digit found size front last is =
    subst (λ xs. MatchOption found ((n : ℕ) → n < 2 ^ 64 → xs ≢ hex n) (λ n. (n < 2 ^ 64) × (xs ≡ hex n))) (sym (split_last ds size))
    (joined_value (take (length ds - 1) ds) (get_or ds (length ds - 1) 0) value digit found (some_front ds size) front.0 front.1 last.0 last.1 is)
