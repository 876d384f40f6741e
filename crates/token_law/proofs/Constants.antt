-- What a constant says at its place in a text, and that the first token of a digit says what its bytes say.
use Rattle.std.proofs.Common.{◌≡◌, ℕ, suc, ◌+◌, ◌≤◌, ◌%◌, ◌^◌, arith, Bool, true, false, not, inl, List, length, drop, refl, subst, sym, ap, ◌∙◌}
use Rattle.std.specs.Prelude.{◌==◌, ◌||◌, nat_lt, Option, Some, None, Result, slice_get, slice_index, slice_range}
use Rattle.std.specs.List.{list_all}
use Rattle.std.proofs.lemmas.Bool.Decides.{nat_tests}
use Rattle.std.proofs.lemmas.Option.{none-some}
use Rattle.facts.proofs.Tests.{same_number, number_same}
use Rattle.verilog_lex.specs.declared.fault.LexFault.{LexFault}
use Rattle.verilog_lex.specs.declared.token.Token.{Token}
use Rattle.verilog_lex.specs.Bytes.{apostrophe, underscore, is_white, is_unknown, is_digit_of}
use Rattle.verilog_lex.specs.Numbers.{radix_of, value_of, base_of, is_constant, number_piece}
use Rattle.verilog_lex.specs.Pieces.{first_piece}
use Rattle.verilog_lex.specs.Reads.{Reads}
use Rattle.token_law.specs.Numbers.{IsSpelled, IsConstant, Stops}
use Rattle.token_law.proofs.Others.{First}
use Rattle.token_law.proofs.Searches.{get_drop}
use Rattle.token_law.proofs.Digits.{Fits, is_spelled}
use Rattle.token_law.proofs.Runs.{run_stops, run_all, full_run, all_both, take-le, part, run_part, index_at}
use Rattle.token_law.proofs.Bases.{IsBase, base_is}
use Rattle.token_law.proofs.Tokens.{number_len, quote_place, size_of, digits_place, digits_len, digits_of, known_len, in_digits, number_spelled, plain_says, large_says, baseless_says, constant_is_digits, unknown_says, wrong_says, right_says}

module _ (base : ℕ) (digit : ℕ → Bool) (fits : (b : ℕ) → digit b ≡ true → Fits base b) where
  known_fits : (b : ℕ) → (digit b || b == underscore) ≡ true → Fits base b
  known_fits b e = go (digit b) refl (b == underscore) refl
    where
      go : (c : Bool) → digit b ≡ c → (u : Bool) → (b == underscore) ≡ u → Fits base b
      go true d u f = fits b d
      go false d true f = inl (number_same b underscore f)
      go false d false f = let wrong : false ≡ true = cc in absurd (cc)

  known_digit : (b : ℕ) → in_digits digit b ≡ true → not (is_unknown b) ≡ true → (digit b || b == underscore) ≡ true
  known_digit b e k = go (digit b || b == underscore) (is_unknown b) e k
    where
      go : (d u : Bool) → (d || u) ≡ true → not u ≡ true → d ≡ true
      go true u e k = refl
      go false true e k = absurd (cc)
      go false false e k = absurd (cc)

  digits_spelled : (xs : List ℕ) → nat_lt (known_len digit xs) (digits_len digit xs) ≡ false → IsSpelled base (digits_of digit xs) (value_of base (digits_of digit xs))
  digits_spelled xs known =
      let short = take-le (digits_len digit xs) (drop (digits_place xs) xs) in
      let whole : length (digits_of digit xs) ≤ known_len digit xs = grind (arith, nat_tests) in
      is_spelled base (λ b. digit b || b == underscore) known_fits (digits_of digit xs)
      (all_both (in_digits digit) (λ b. not (is_unknown b)) (λ b. digit b || b == underscore) known_digit (digits_of digit xs)
      (run_all (in_digits digit) (drop (digits_place xs) xs))
      (full_run (λ b. not (is_unknown b)) (digits_of digit xs) whole))

-- the digits of a constant go on as far as there are digits and `_`
digits_stop : (text : List ℕ) (at letter base : ℕ) (digit : ℕ → Bool) → IsBase letter base digit → Stops base text (at + (digits_place (drop at text) + digits_len digit (drop at text)))
digits_stop text at letter base digit is b e =
    let xs : List ℕ = drop at text in
    let place : slice_get (drop (digits_place xs) xs) (digits_len digit xs) ≡ Some b =
    get_drop (digits_place xs) xs (digits_len digit xs) (digits_place xs + digits_len digit xs) refl ∙ get_drop at text (digits_place xs + digits_len digit xs) (at + (digits_place xs + digits_len digit xs)) refl ∙ e in
    let stop : in_digits digit b ≡ false = run_stops (in_digits digit) (drop (digits_place xs) xs) b place in
    (λ same. ended (digit b) (b == underscore) (is_unknown b) stop (same_number b underscore same), λ d w. began (digit b) (b == underscore) (is_unknown b) stop (is.only b d w))
  where
    ended : (c d u : Bool) → (c || d || u) ≡ false → d ≡ true → ⊥
    ended true d u e f = absurd (cc)
    ended false true u e f = absurd (cc)
    ended false false u e f = absurd (cc)

    began : (c d u : Bool) → (c || d || u) ≡ false → c ≡ true → ⊥
    began true d u e f = absurd (cc)
    began false d u e f = absurd (cc)

letter_some : (letter : ℕ) (base : _) → base_of letter ≡ Some base → letter ≡ 0 → ⊥
letter_some letter base e zero_is = none-some base (sym (ap base_of zero_is) ∙ e)

module _ (text : List ℕ) (at : ℕ) where
  constant_says : (base : _)
      → (slice_index (drop at text) (quote_place (drop at text)) == apostrophe) ≡ true
      → base_of (slice_index (drop at text) (quote_place (drop at text) + 1)) ≡ Some base
      → nat_lt (known_len (is_digit_of base) (drop at text)) (digits_len (is_digit_of base) (drop at text)) ≡ false
      → IsConstant text at (at + (digits_place (drop at text) + digits_len (is_digit_of base) (drop at text))) (size_of (drop at text)) (value_of (radix_of base) (digits_of (is_digit_of base) (drop at text)) % 2 ^ size_of (drop at text))
  constant_says base quoted named known =
      let xs : List ℕ = drop at text in
      let letter : ℕ = slice_index xs (quote_place xs + 1) in
      let b : IsBase letter (radix_of base) (is_digit_of base) = base_is letter base named in
      let quote : slice_get xs (quote_place xs) ≡ Some apostrophe = index_at xs (quote_place xs) apostrophe (λ z. absurd (omega (arith, z))) (number_same (slice_index xs (quote_place xs)) apostrophe quoted) in
      let name : slice_get xs (quote_place xs + 1) ≡ Some letter = index_at xs (quote_place xs + 1) letter (letter_some letter base named) refl in
      let two : at + quote_place xs + 2 ≡ at + (quote_place xs + 1 + 1) = omega arith in
      let spelled = digits_spelled (radix_of base) (is_digit_of base) b.fits xs known in
      let range : slice_range text (at + digits_place xs) (at + (digits_place xs + digits_len (is_digit_of base) xs)) ≡ digits_of (is_digit_of base) xs = part text at (digits_place xs) (digits_place xs + digits_len (is_digit_of base) xs) (digits_len (is_digit_of base) xs) refl in
      record {
        base = radix_of base;
        letter = letter;
        number = value_of (radix_of base) (digits_of (is_digit_of base) xs);
        end = at + number_len xs;
        quote = at + quote_place xs;
        start = at + digits_place xs;
        ordered = (omega arith, omega arith, omega arith, omega arith);
        size_is = number_spelled text at;
        white_before = run_part is_white text at (number_len xs) (quote_place xs) refl;
        quoted = sym (get_drop at text (quote_place xs) (at + quote_place xs) refl) ∙ quote;
        named = sym (get_drop at text (quote_place xs + 1) (suc (at + quote_place xs)) (omega arith)) ∙ name;
        base_is = b.named;
        white_behind = ap (λ n. list_all is_white (slice_range text n (at + digits_place xs))) two ∙ run_part is_white text at (quote_place xs + 1 + 1) (digits_place xs) refl;
        number_is = subst (λ bytes. IsSpelled (radix_of base) bytes (value_of (radix_of base) (digits_of (is_digit_of base) xs))) (sym range) spelled;
        stops = digits_stop text at letter (radix_of base) (is_digit_of base) b;
        value_is = refl;
      }

-- where a number begins, the first token says what its bytes say
pub numbers_say : (text : List ℕ) {implicit : Bool} {at : ℕ} {answer : Result (List Token) LexFault} (r : Reads text implicit at answer) → first_piece (drop at text) ≡ number_piece (drop at text) → First text r
numbers_say text {at = at} r e = sized (nat_lt 4294967295 (size_of xs)) refl (slice_index xs (quote_place xs) == apostrophe) refl
  where
    xs : List ℕ
    xs = drop at text

    based : (base : _) → nat_lt 4294967295 (size_of (drop at text)) ≡ false → (slice_index (drop at text) (quote_place (drop at text)) == apostrophe) ≡ true → base_of (slice_index (drop at text) (quote_place (drop at text) + 1)) ≡ Some base → (k : Bool) → nat_lt (known_len (is_digit_of base) (drop at text)) (digits_len (is_digit_of base) (drop at text)) ≡ k → (c : Bool) → is_constant (size_of (drop at text)) base (digits_of (is_digit_of base) (drop at text)) ≡ c → First text r
    based base small quoted named true known c fits = unknown_says text r base (e ∙ constant_is_digits (drop at text) small quoted base named) known
    based base small quoted named false known false fits = wrong_says text r base (e ∙ constant_is_digits (drop at text) small quoted base named) known fits
    based base small quoted named false known true fits =
        right_says text r base (e ∙ constant_is_digits (drop at text) small quoted base named) known fits (constant_says text at base quoted named known)

    sized : (l : Bool) → nat_lt 4294967295 (size_of (drop at text)) ≡ l → (q : Bool) → (slice_index (drop at text) (quote_place (drop at text)) == apostrophe) ≡ q → First text r
    sized true large q quote = large_says text r e large
    sized false small false plain = plain_says text r e small plain
    sized false small true quoted = with_base (base_of (slice_index (drop at text) (quote_place (drop at text) + 1))) refl
      where
        with_base : (o : Option _) → base_of (slice_index (drop at text) (quote_place (drop at text) + 1)) ≡ o → First text r
        with_base None none = baseless_says text r e small quoted none
        with_base (Some base) named = based base small quoted named _ refl _ refl
