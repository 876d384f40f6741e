-- The numbers that hexadecimal digits write: whether they fit a width, and their bits.
use Rattle.std.proofs.Common.{◌≡◌, ◌↔◌, ℕ, zero, suc, ◌+◌, ◌-◌, ◌*◌, ◌/◌, ◌%◌, ◌^◌, ◌<◌, ◌≤◌, Bool, true, false, if◌then◌else◌, IsTrue, Option, Some, None, List, [], ◌∷◌, drop, get_or, length, refl, sym, ap, ◌∙◌, subst, inl, inr, length-drop, arith}
use Rattle.std.specs.Char.{digit_value}
use Rattle.std.specs.Int.{bit_at}
use Rattle.std.specs.List.{list_all}
use Rattle.std.proofs.Math.Nat.{pow-succ', pow-le-pow_right, mul-le-mul_right, mul-lt-mul_of_pos_right, lt_of_mul-lt-mul_right, suc-mul}
use Rattle.std.proofs.lemmas.Bool.{and_parts, and_from, ltb-true, cases_lt}
use Rattle.std.proofs.lemmas.Nat.{pow-add, pow_pos}
use Rattle.std.proofs.lemmas.List.{drop_more, drop_all}
use Rattle.std.proofs.lemmas.Nat.Bits.{bit_at_cat_low, bit_at_cat_high, bit_at_above}
use Rattle.event_replay.specs.Values.{hex_number, is_hex}

pub sixteen : (k : ℕ) → 16 ^ k ≡ 2 ^ (4 * k)
sixteen zero = refl
sixteen (suc k) =
    let four : 4 + 4 * k ≡ 4 * suc k = omega arith in
    pow-succ' 16 k ∙ ap (λ n. 16 * n) (sixteen k) ∙ sym (pow-add 2 4 (4 * k)) ∙ ap (λ n. 2 ^ n) four

pub digit_small : (b : ℕ) → IsTrue (is_hex b) → digit_value b < 16
digit_small b h = ltb-true (digit_value b) 16 h

pub all_first : (d : ℕ) (ds : List ℕ) → IsTrue (list_all is_hex (d ∷ ds)) → IsTrue (is_hex d)
all_first d ds h = (and_parts (is_hex d) (list_all is_hex ds) h).0

pub all_rest : (d : ℕ) (ds : List ℕ) → IsTrue (list_all is_hex (d ∷ ds)) → IsTrue (list_all is_hex ds)
all_rest d ds h = (and_parts (is_hex d) (list_all is_hex ds) h).1

-- a digit and what stands after it write less than the next digit alone
next_digit : (v m r : ℕ) → r < m → v * m + r < suc v * m
next_digit v m r h = omega (arith, suc-mul v m)

pub hex_number_lt : (ds : List ℕ) → IsTrue (list_all is_hex ds) → hex_number ds < 16 ^ length ds
hex_number_lt [] h = omega arith
hex_number_lt (d ∷ ds) h =
    let rest = hex_number_lt ds (all_rest d ds h) in
    let step = next_digit (digit_value d) (16 ^ length ds) (hex_number ds) rest in
    let most = mul-le-mul_right {m = suc (digit_value d)} {n = 16} (16 ^ length ds) (omega (arith, digit_small d (all_first d ds h))) in
    omega (arith, step, most, pow-succ' 16 (length ds))

-- a digit of value `v` with `after` digits after it, for a width
module _ (v after width : ℕ) where
  -- its lowest bit is too high
  pub too_high : 0 < v → width / 4 < after → v * 16 ^ after < 2 ^ width → ⊥
  too_high some far fits =
      let one = mul-le-mul_right {m = 1} {n = v} (16 ^ after) some in
      let power : 2 ^ width ≤ 16 ^ after = rw (sixteen after) (pow-le-pow_right {n = 2} (omega arith) {i = width} {j = 4 * after} (omega arith)) in
      omega arith

  -- it has room for some bits
  pub with_room : after ≤ width / 4 → (v < 2 ^ (width - 4 * after)) ↔ (v * 16 ^ after < 2 ^ width)
  with_room near =
      let room : width - 4 * after + 4 * after ≡ width = omega arith in
      let split : 2 ^ width ≡ 2 ^ (width - 4 * after) * 16 ^ after =
      ap (λ n. 2 ^ n) (sym room) ∙ pow-add 2 (width - 4 * after) (4 * after) ∙ ap (λ n. 2 ^ (width - 4 * after) * n) (sym (sixteen after)) in
      let positive : 0 < 16 ^ after = rw (sixteen after) (pow_pos (4 * after)) in (
        λ h. subst (λ n. v * 16 ^ after < n) (sym split) (mul-lt-mul_of_pos_right h positive),
        λ h. lt_of_mul-lt-mul_right (16 ^ after) (subst (λ n. v * 16 ^ after < n) split h),
      )

-- what reading a digit tells
pub digit_read : (b d : ℕ) (o : Option ℕ) → o ≡ (if is_hex b then Some (digit_value b) else None) → o ≡ Some d → IsTrue (is_hex b) × (d ≡ digit_value b)
digit_read b d o is here = go (is_hex b) refl
  where
    go : (t : Bool) → is_hex b ≡ t → IsTrue (is_hex b) × (d ≡ digit_value b)
    go true e = (e, (let s : Some d ≡ Some (digit_value b) = sym here ∙ is ∙ ap (λ t. if t then Some (digit_value b) else None) e in cc))
    go false e = absurd (let s : Some d ≡ None = sym here ∙ is ∙ ap (λ t. if t then Some (digit_value b) else None) e in cc)

-- digits that write a number for a width
abbrev pub Fits : ℕ → List ℕ → Type 0
Fits width ds = IsTrue (list_all is_hex ds) × (hex_number ds < 2 ^ width)

-- digits fit where the first of them and the others do
pub fits_step : (width d : ℕ) (ds : List ℕ) → (IsTrue (is_hex d) × (digit_value d * 16 ^ length ds < 2 ^ width)) × Fits width ds ↔ Fits width (d ∷ ds)
fits_step width d ds = (there, back)
  where
    there : (IsTrue (is_hex d) × (digit_value d * 16 ^ length ds < 2 ^ width)) × Fits width ds → Fits width (d ∷ ds)
    there h =
        let hex = and_from (is_hex d) (list_all is_hex ds) h.0.0 h.1.0 in
        let rest = hex_number_lt ds h.1.0 in
        let step = next_digit (digit_value d) (16 ^ length ds) (hex_number ds) rest in
        elim (cases_lt (width / 4) (length ds)) [
          | inl far ↦ (
            hex,
            (elim (cases_lt 0 (digit_value d)) [
              | inl some ↦ absurd (too_high (digit_value d) (length ds) width some far h.0.1)
              | inr none ↦ (let zeroth : digit_value d ≡ 0 = omega arith in let nothing : digit_value d * 16 ^ length ds ≡ 0 * 16 ^ length ds = ap (λ v. v * 16 ^ length ds) zeroth in let less = h.1.1 in omega arith)
            ]),
          )
          | inr near ↦ (
            hex,
            (let room = with_room (digit_value d) (length ds) width near in
                let more = with_room (suc (digit_value d)) (length ds) width near in
                elim (cases_lt (suc (digit_value d)) (2 ^ (width - 4 * length ds))) [
                  | inl less ↦ (let most = more.0 less in omega arith)
                  | inr last ↦ (let first = room.1 h.0.1 in let all : suc (digit_value d) ≡ 2 ^ (width - 4 * length ds) = omega arith in last_digit all near rest)
                ]),
          )
        ]
      where
        last_digit : suc (digit_value d) ≡ 2 ^ (width - 4 * length ds) → length ds ≤ width / 4 → hex_number ds < 16 ^ length ds → hex_number (d ∷ ds) < 2 ^ width
        last_digit all near rest =
            let room : width - 4 * length ds + 4 * length ds ≡ width = omega arith in
            let split : 2 ^ width ≡ 2 ^ (width - 4 * length ds) * 16 ^ length ds =
            ap (λ n. 2 ^ n) (sym room) ∙ pow-add 2 (width - 4 * length ds) (4 * length ds) ∙ ap (λ n. 2 ^ (width - 4 * length ds) * n) (sym (sixteen (length ds))) in
            subst (λ n. hex_number (d ∷ ds) < n) (sym (split ∙ ap (λ n. n * 16 ^ length ds) (sym all))) (next_digit (digit_value d) (16 ^ length ds) (hex_number ds) rest)

    back : Fits width (d ∷ ds) → (IsTrue (is_hex d) × (digit_value d * 16 ^ length ds < 2 ^ width)) × Fits width ds
    back h = ((all_first d ds h.0, omega (arith, h.1)), (all_rest d ds h.0, omega (arith, h.1)))

-- the bits of the digits from the last one back
pub bit_found : (ds : List ℕ) (place : ℕ) → IsTrue (list_all is_hex ds) → place / 4 < length ds → bit_at (hex_number ds) place ≡ bit_at (digit_value (get_or ds (length ds - 1 - place / 4) 0)) (place % 4)
bit_found [] place h inside = absurd (omega arith)
bit_found (d ∷ ds) place h inside =
    let power = ap (λ m. bit_at (digit_value d * m + hex_number ds) place) (sixteen (length ds)) in
    let rest : hex_number ds < 2 ^ (4 * length ds) = subst (λ m. hex_number ds < m) (sixteen (length ds)) (hex_number_lt ds (all_rest d ds h)) in
    elim (cases_lt (place / 4) (length ds)) [
      | inl low ↦ (let there : suc (length ds) - 1 - place / 4 ≡ suc (length ds - 1 - place / 4) = omega arith in
          power
          ∙ bit_at_cat_low (digit_value d) (4 * length ds) (hex_number ds) place (omega arith)
          ∙ bit_found ds place (all_rest d ds h) low
          ∙ ap (λ i. bit_at (digit_value (get_or (d ∷ ds) i 0)) (place % 4)) (sym there))
      | inr high ↦ (let there : suc (length ds) - 1 - place / 4 ≡ 0 = omega arith in
          let left : place - 4 * length ds ≡ place % 4 = omega arith in
          power
          ∙ bit_at_cat_high (digit_value d) (4 * length ds) (hex_number ds) place rest (omega arith)
          ∙ ap (bit_at (digit_value d)) left
          ∙ ap (λ i. bit_at (digit_value (get_or (d ∷ ds) i 0)) (place % 4)) (sym there))
    ]

pub bit_beyond : (ds : List ℕ) (place : ℕ) → IsTrue (list_all is_hex ds) → length ds ≤ place / 4 → bit_at (hex_number ds) place ≡ 0
bit_beyond ds place h beyond =
    bit_at_above (hex_number ds) (4 * length ds) place (subst (λ m. hex_number ds < m) (sixteen (length ds)) (hex_number_lt ds h)) (omega arith)

-- the next digit fits: what is said of the rest from it on is said of what stands after it
pub fits_more : {W : Type 0} (width place : ℕ) (xs : List ℕ) → place < length xs
    → IsTrue (is_hex (get_or xs place 0)) × (digit_value (get_or xs place 0) * 16 ^ (length xs - 1 - place) < 2 ^ width)
    → (Fits width (drop place xs) ↔ W) → Fits width (drop (place + 1) xs) ↔ W
fits_more width place xs inside first so_far =
    let count : length xs - 1 - place ≡ length (drop (place + 1) xs) = omega (arith, length-drop (place + 1) xs) in
    let one = subst (λ n. IsTrue (is_hex (get_or xs place 0)) × (digit_value (get_or xs place 0) * 16 ^ n < 2 ^ width)) count first in
    let step = fits_step width (get_or xs place 0) (drop (place + 1) xs) in
    let front = drop_more xs place 0 inside in (
      λ h. so_far.0 (subst (Fits width) (sym front) (step.0 (one, h))),
      λ w. (step.1 (subst (Fits width) front (so_far.1 w))).1,
    )

-- all digits are taken, and there was one
pub fits_all : (width place : ℕ) (xs : List ℕ) → length xs ≤ place → (Fits width (drop place xs) ↔ Fits width xs) → Fits width xs
fits_all width place xs ended so_far =
    so_far.0 (subst (Fits width) (sym (drop_all place xs ended)) (refl, pow_pos width))
