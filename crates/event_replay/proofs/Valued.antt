-- Digits that are a value, and the number that they write.
use Rattle.std.proofs.Common.{◌≡◌, ℕ, ◌+◌, ◌*◌, ◌^◌, ◌<◌, ◌≤◌, Bool, true, false, ◌&&◌, if◌then◌else◌, IsTrue, Option, Some, None, List, [], ◌∷◌, drop, get_or, length, zero, suc, refl, sym, ap, ◌∙◌, subst, arith}
use Rattle.std.specs.Char.{digit_value}
use Rattle.std.specs.List.{list_all}
use Rattle.std.specs.Prelude.{nat_lt}
use Rattle.std.proofs.Math.Nat.{add-mul, mul_assoc, pow-succ', le-mul_of_pos_right}
use Rattle.std.proofs.lemmas.Bool.{and_parts, and_from, ltb-true, lt-ltb}
use Rattle.std.proofs.lemmas.List.{drop_more}
use Rattle.std.proofs.lemmas.Nat.{pow_pos}
use Rattle.domain_groups.specs.declared.openings.OpeningFault.{OpeningFault}
use Rattle.domain_groups.specs.declared.openings.OpeningFault.TheVariants.{BadValue}
use Rattle.domain_groups.specs.Openings.{value_fault}
use Rattle.domain_groups.specs.Values.{hex_number, is_hex, is_value}
use Rattle.event_replay.specs.Values.{IsValue}
use Rattle.event_replay.proofs.ReadDigits.{sixteen}

is_one : (width : ℕ) (digits : List ℕ) → IsValue width digits → is_value width digits ≡ true
unfolding is_value
is_one width digits v =
    and_from (nat_lt 0 (length digits) && list_all is_hex digits) (nat_lt (hex_number digits) (2 ^ width))
    (and_from (nat_lt 0 (length digits)) (list_all is_hex digits) (lt-ltb 0 (length digits) v.some) v.hex)
    (lt-ltb (hex_number digits) (2 ^ width) v.fits)

one_is : (width : ℕ) (digits : List ℕ) → is_value width digits ≡ true → IsValue width digits
unfolding is_value
one_is width digits e =
    let both = and_parts (nat_lt 0 (length digits) && list_all is_hex digits) (nat_lt (hex_number digits) (2 ^ width)) e in
    let front = and_parts (nat_lt 0 (length digits)) (list_all is_hex digits) both.0 in
    record { some = ltb-true 0 (length digits) front.0; hex = front.1; fits = ltb-true (hex_number digits) (2 ^ width) both.1 }

pub value_sound : (name digits : List ℕ) (width : ℕ) → IsValue width digits → value_fault name digits width ≡ None
value_sound name digits width v = ap (λ (b : Bool). if b then None else Some (BadValue name)) (is_one width digits v)

pub value_bad : (name digits : List ℕ) (width : ℕ) → (IsValue width digits → ⊥) → value_fault name digits width ≡ Some (BadValue name)
value_bad name digits width none = go (is_value width digits) refl
  where
    go : (b : Bool) → is_value width digits ≡ b → value_fault name digits width ≡ Some (BadValue name)
    go true e = absurd (none (one_is width digits e))
    go false e = ap (λ (b : Bool). if b then None else Some (BadValue name)) e

-- one digit more is taken in
pub next_number : (n d total : ℕ) (ds : List ℕ) → n * 16 ^ length (d ∷ ds) + hex_number (d ∷ ds) ≡ total → (n * 16 + digit_value d) * 16 ^ length ds + hex_number ds ≡ total
next_number n d total ds so_far =
    let power : n * 16 ^ length (d ∷ ds) ≡ n * 16 * 16 ^ length ds = ap (λ p. n * p) (pow-succ' 16 (length ds)) ∙ sym (mul_assoc n 16 (16 ^ length ds)) in
    let split = add-mul (n * 16) (digit_value d) (16 ^ length ds) in
    let whole : n * 16 ^ length (d ∷ ds) + (digit_value d * 16 ^ length ds + hex_number ds) ≡ total = so_far in
    omega (arith, power, split, whole)

-- and what is written so far is no more than the whole
pub number_low : (n total : ℕ) (ds : List ℕ) → n * 16 ^ length ds + hex_number ds ≡ total → n ≤ total
number_low n total ds so_far =
    let positive : 0 < 16 ^ length ds = subst (λ k. 0 < k) (sym (sixteen (length ds))) (pow_pos (4 * length ds)) in
    let most = le-mul_of_pos_right n positive in
    omega (arith, most, so_far)

pub hex_at : (o : Option ℕ) (b : ℕ) → IsTrue (is_hex b) → o ≡ (if is_hex b then Some (digit_value b) else None) → o ≡ Some (digit_value b)
hex_at o b h is = is ∙ ap (λ t. if t then Some (digit_value b) else None) h

pub hex_there : (digits : List ℕ) (place : ℕ) → place < length digits → IsTrue (list_all is_hex digits) → IsTrue (is_hex (get_or digits place 0))
hex_there [] place low all = absurd (omega arith)
hex_there (d ∷ ds) zero low all = (and_parts (is_hex d) (list_all is_hex ds) all).0
hex_there (d ∷ ds) (suc place) low all = hex_there ds place (omega arith) (and_parts (is_hex d) (list_all is_hex ds) all).1

-- the digit at a place is taken in
pub record DigitTaken (number place : ℕ) (digits : List ℕ) : Type 0 where
  pub hex : IsTrue (is_hex (get_or digits place 0))
  pub low : number * 16 + digit_value (get_or digits place 0) ≤ hex_number digits
  pub next : (number * 16 + digit_value (get_or digits place 0)) * 16 ^ length (drop (place + 1) digits) + hex_number (drop (place + 1) digits) ≡ hex_number digits

pub digit_taken : (number place : ℕ) (digits : List ℕ) → place < length digits → IsTrue (list_all is_hex digits) → number * 16 ^ length (drop place digits) + hex_number (drop place digits) ≡ hex_number digits → DigitTaken number place digits
digit_taken number place digits low all so_far =
    let front = drop_more digits place 0 low in
    let here = subst (λ ds. number * 16 ^ length ds + hex_number ds ≡ hex_number digits) front so_far in
    let next = next_number number (get_or digits place 0) (hex_number digits) (drop (place + 1) digits) here in
    record {
      hex = hex_there digits place low all;
      low = number_low (number * 16 + digit_value (get_or digits place 0)) (hex_number digits) (drop (place + 1) digits) next;
      next = next;
    }
