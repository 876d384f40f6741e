-- Numbers and constants say what their bytes say.
use Rattle.std.proofs.Common.{◌≡◌, ◌∙◌, ℕ, ◌+◌, ◌-◌, ◌%◌, ◌^◌, arith, Bool, true, false, not, inl, List, drop, take, refl, subst, sym, ap}
use Rattle.std.specs.Prelude.{◌==◌, ◌||◌, nat_lt, Some, None, Result, slice_index, slice_range}
use Rattle.std.specs.List.{prefix_len}
use Rattle.std.specs.Char.{is_ascii_digit}
use Rattle.std.proofs.lemmas.Bool.Decides.{nat_tests}
use Rattle.facts.proofs.Tests.{same_number, number_same}
use Rattle.verilog_lex.specs.declared.fault.LexFault.{LexFault}
use Rattle.verilog_lex.specs.declared.token.Token.{Token}
use Rattle.verilog_lex.specs.declared.token.TokenKind.TheVariants as kind
use Rattle.verilog_lex.specs.Bytes.{apostrophe, underscore, is_white, is_unknown, is_digit_of}
use Rattle.verilog_lex.specs.Numbers.{radix_of, value_of, base_of, is_constant, digits_piece, constant_piece, number_piece}
use Rattle.verilog_lex.specs.Pieces.{first_piece}
use Rattle.verilog_lex.specs.Reads.{Reads, ends, passes, sets, takes, fails}
use Rattle.token_law.specs.Numbers.{IsSpelled, IsConstant, Stops}
use Rattle.token_law.proofs.Others.{First}
use Rattle.token_law.proofs.Searches.{get_drop}
use Rattle.token_law.proofs.Digits.{Fits, is_spelled}
use Rattle.token_law.proofs.Runs.{run_stops, run_all}
use Rattle.token_law.proofs.Bases.{decimal_only, decimal_fits}

-- the bytes of a plain number
abbrev pub in_number : ℕ → Bool
in_number b = is_ascii_digit b || b == underscore

number_fits : (b : ℕ) → in_number b ≡ true → Fits 10 b
number_fits b e = go (b == underscore) refl
  where
    go : (c : Bool) → (b == underscore) ≡ c → Fits 10 b
    go true u = inl (number_same b underscore u)
    go false u = decimal_fits b (grind (arith, nat_tests))

abbrev pub number_len : List ℕ → ℕ
number_len text = prefix_len in_number text

-- the run at a place is a part of the text
run_range : (text : List ℕ) (at n : ℕ) → slice_range text at (at + n) ≡ take n (drop at text)
run_range text at n = let size : at + n - at ≡ n = omega arith in ap (λ k. take k (drop at text)) size

pub number_spelled : (text : List ℕ) (at : ℕ) → IsSpelled 10 (slice_range text at (at + number_len (drop at text))) (value_of 10 (take (number_len (drop at text)) (drop at text)))
number_spelled text at =
    let xs : List ℕ = drop at text in
    subst (λ bytes. IsSpelled 10 bytes (value_of 10 (take (number_len xs) xs))) (sym (run_range text at (number_len xs)))
    (is_spelled 10 in_number number_fits (take (number_len xs) xs) (run_all in_number xs))

-- a number goes on as far as there are figures and `_`
number_stops : (text : List ℕ) (at : ℕ) → Stops 10 text (at + number_len (drop at text))
number_stops text at b e =
    let stop : in_number b ≡ false = run_stops in_number (drop at text) b (get_drop at text (number_len (drop at text)) (at + number_len (drop at text)) refl ∙ e) in
    (λ same. ended (is_ascii_digit b) (b == underscore) stop (same_number b underscore same), λ digit w. began (is_ascii_digit b) (b == underscore) stop (decimal_only b digit w))
  where
    ended : (c d : Bool) → (c || d) ≡ false → d ≡ true → ⊥
    ended true d e f = absurd (cc)
    ended false d e f = absurd (cc)

    began : (c d : Bool) → (c || d) ≡ false → c ≡ true → ⊥
    began true d e f = absurd (cc)
    began false d e f = absurd (cc)

-- where the quote of a constant would stand
abbrev pub quote_place : List ℕ → ℕ
quote_place text = number_len text + prefix_len is_white (drop (number_len text) text)

abbrev pub size_of : List ℕ → ℕ
size_of text = value_of 10 (take (number_len text) text)

pub plain_says : (text : List ℕ) {implicit : Bool} {at : ℕ} {answer : Result (List Token) LexFault} (r : Reads text implicit at answer) → first_piece (drop at text) ≡ number_piece (drop at text) → nat_lt 4294967295 (size_of (drop at text)) ≡ false → (slice_index (drop at text) (quote_place (drop at text)) == apostrophe) ≡ false → First text r
unfolding number_piece
plain_says text (ends implicit at over) e small plain = tt
plain_says text (passes implicit at bytes answer stands rest) e small plain = tt
plain_says text (sets implicit setting at bytes answer stands rest) e small plain = tt
plain_says text (fails implicit at offset cause stands) e small plain = tt
plain_says text (takes implicit at start bytes kind.Name answer stands rest) e small plain = tt
plain_says text (takes implicit at start bytes (kind.Keyword place) answer stands rest) e small plain = tt
plain_says text (takes implicit at start bytes (kind.Mark byte) answer stands rest) e small plain = tt
plain_says text (takes implicit at start bytes (kind.Number number) answer stands rest) e small plain =
    let h = rw plain at (rw small at (rw e at stands.is)) in
    let is : size_of (drop at text) ≡ number = cc in
    let begin : start ≡ 0 = cc in
    let end : bytes ≡ number_len (drop at text) = cc in
    let here : at ≡ at + start = omega (arith, begin) in
    let there : at + number_len (drop at text) ≡ at + bytes = omega (arith, end) in (
      subst (λ n. IsSpelled 10 (slice_range text (at + start) (at + bytes)) n) is
          (subst (λ a. IsSpelled 10 (slice_range text a (at + bytes)) (size_of (drop at text))) here
          (subst (λ b. IsSpelled 10 (slice_range text at b) (size_of (drop at text))) there (number_spelled text at))),
      subst (Stops 10 text) there (number_stops text at),
    )
plain_says text (takes implicit at start bytes (kind.Constant size value) answer stands rest) e small plain =
    let h = rw plain at (rw small at (rw e at stands.is)) in absurd (cc)

pub large_says : (text : List ℕ) {implicit : Bool} {at : ℕ} {answer : Result (List Token) LexFault} (r : Reads text implicit at answer) → first_piece (drop at text) ≡ number_piece (drop at text) → nat_lt 4294967295 (size_of (drop at text)) ≡ true → First text r
unfolding number_piece
large_says text (ends implicit at over) e large = tt
large_says text (passes implicit at bytes answer stands rest) e large = tt
large_says text (sets implicit setting at bytes answer stands rest) e large = tt
large_says text (fails implicit at offset cause stands) e large = tt
large_says text (takes implicit at start bytes kind.Name answer stands rest) e large = tt
large_says text (takes implicit at start bytes (kind.Keyword place) answer stands rest) e large = tt
large_says text (takes implicit at start bytes (kind.Mark byte) answer stands rest) e large = tt
large_says text (takes implicit at start bytes (kind.Number number) answer stands rest) e large =
    let h = rw large at (rw e at stands.is) in absurd (cc)
large_says text (takes implicit at start bytes (kind.Constant size value) answer stands rest) e large =
    let h = rw large at (rw e at stands.is) in absurd (cc)

pub baseless_says : (text : List ℕ) {implicit : Bool} {at : ℕ} {answer : Result (List Token) LexFault} (r : Reads text implicit at answer) → first_piece (drop at text) ≡ number_piece (drop at text) → nat_lt 4294967295 (size_of (drop at text)) ≡ false → (slice_index (drop at text) (quote_place (drop at text)) == apostrophe) ≡ true → base_of (slice_index (drop at text) (quote_place (drop at text) + 1)) ≡ None → First text r
unfolding number_piece constant_piece
baseless_says text (ends implicit at over) e small quoted none = tt
baseless_says text (passes implicit at bytes answer stands rest) e small quoted none = tt
baseless_says text (sets implicit setting at bytes answer stands rest) e small quoted none = tt
baseless_says text (fails implicit at offset cause stands) e small quoted none = tt
baseless_says text (takes implicit at start bytes kind.Name answer stands rest) e small quoted none = tt
baseless_says text (takes implicit at start bytes (kind.Keyword place) answer stands rest) e small quoted none = tt
baseless_says text (takes implicit at start bytes (kind.Mark byte) answer stands rest) e small quoted none = tt
baseless_says text (takes implicit at start bytes (kind.Number number) answer stands rest) e small quoted none =
    let h = rw none at (rw quoted at (rw small at (rw e at stands.is))) in absurd (cc)
baseless_says text (takes implicit at start bytes (kind.Constant size value) answer stands rest) e small quoted none =
    let h = rw none at (rw quoted at (rw small at (rw e at stands.is))) in absurd (cc)

-- where the digits of a constant begin
abbrev pub digits_place : List ℕ → ℕ
digits_place text = quote_place text + 1 + 1 + prefix_len is_white (drop (quote_place text + 1 + 1) text)

-- the bytes of the digits of a constant, known or not
abbrev pub in_digits : (ℕ → Bool) → ℕ → Bool
in_digits digit b = digit b || b == underscore || is_unknown b

abbrev pub digits_len : (ℕ → Bool) → List ℕ → ℕ
digits_len digit text = prefix_len (in_digits digit) (drop (digits_place text) text)

abbrev pub digits_of : (ℕ → Bool) → List ℕ → List ℕ
digits_of digit text = take (digits_len digit text) (drop (digits_place text) text)

abbrev pub known_len : (ℕ → Bool) → List ℕ → ℕ
known_len digit text = prefix_len (λ b. not (is_unknown b)) (digits_of digit text)

pub constant_is_digits : (xs : List ℕ) → nat_lt 4294967295 (size_of xs) ≡ false → (slice_index xs (quote_place xs) == apostrophe) ≡ true → (base : _) → base_of (slice_index xs (quote_place xs + 1)) ≡ Some base → number_piece xs ≡ digits_piece xs (size_of xs) base (digits_place xs)
unfolding number_piece constant_piece
constant_is_digits xs small quoted base named = rw small (rw quoted (rw named refl))

pub unknown_says : (text : List ℕ) {implicit : Bool} {at : ℕ} {answer : Result (List Token) LexFault} (r : Reads text implicit at answer) → (base : _) → first_piece (drop at text) ≡ digits_piece (drop at text) (size_of (drop at text)) base (digits_place (drop at text)) → nat_lt (known_len (is_digit_of base) (drop at text)) (digits_len (is_digit_of base) (drop at text)) ≡ true → First text r
unfolding digits_piece
unknown_says text (ends implicit at over) base e unknown = tt
unknown_says text (passes implicit at bytes answer stands rest) base e unknown = tt
unknown_says text (sets implicit setting at bytes answer stands rest) base e unknown = tt
unknown_says text (fails implicit at offset cause stands) base e unknown = tt
unknown_says text (takes implicit at start bytes kind.Name answer stands rest) base e unknown = tt
unknown_says text (takes implicit at start bytes (kind.Keyword place) answer stands rest) base e unknown = tt
unknown_says text (takes implicit at start bytes (kind.Mark byte) answer stands rest) base e unknown = tt
unknown_says text (takes implicit at start bytes (kind.Number number) answer stands rest) base e unknown =
    let h = rw unknown at (rw e at stands.is) in absurd (cc)
unknown_says text (takes implicit at start bytes (kind.Constant size value) answer stands rest) base e unknown =
    let h = rw unknown at (rw e at stands.is) in absurd (cc)

pub wrong_says : (text : List ℕ) {implicit : Bool} {at : ℕ} {answer : Result (List Token) LexFault} (r : Reads text implicit at answer) → (base : _) → first_piece (drop at text) ≡ digits_piece (drop at text) (size_of (drop at text)) base (digits_place (drop at text)) → nat_lt (known_len (is_digit_of base) (drop at text)) (digits_len (is_digit_of base) (drop at text)) ≡ false → is_constant (size_of (drop at text)) base (digits_of (is_digit_of base) (drop at text)) ≡ false → First text r
unfolding digits_piece
wrong_says text (ends implicit at over) base e known wrong = tt
wrong_says text (passes implicit at bytes answer stands rest) base e known wrong = tt
wrong_says text (sets implicit setting at bytes answer stands rest) base e known wrong = tt
wrong_says text (fails implicit at offset cause stands) base e known wrong = tt
wrong_says text (takes implicit at start bytes kind.Name answer stands rest) base e known wrong = tt
wrong_says text (takes implicit at start bytes (kind.Keyword place) answer stands rest) base e known wrong = tt
wrong_says text (takes implicit at start bytes (kind.Mark byte) answer stands rest) base e known wrong = tt
wrong_says text (takes implicit at start bytes (kind.Number number) answer stands rest) base e known wrong =
    let h = rw wrong at (rw known at (rw e at stands.is)) in absurd (cc)
wrong_says text (takes implicit at start bytes (kind.Constant size value) answer stands rest) base e known wrong =
    let h = rw wrong at (rw known at (rw e at stands.is)) in absurd (cc)

pub right_says : (text : List ℕ) {implicit : Bool} {at : ℕ} {answer : Result (List Token) LexFault} (r : Reads text implicit at answer) → (base : _) → first_piece (drop at text) ≡ digits_piece (drop at text) (size_of (drop at text)) base (digits_place (drop at text)) → nat_lt (known_len (is_digit_of base) (drop at text)) (digits_len (is_digit_of base) (drop at text)) ≡ false → is_constant (size_of (drop at text)) base (digits_of (is_digit_of base) (drop at text)) ≡ true → IsConstant text at (at + (digits_place (drop at text) + digits_len (is_digit_of base) (drop at text))) (size_of (drop at text)) (value_of (radix_of base) (digits_of (is_digit_of base) (drop at text)) % 2 ^ size_of (drop at text)) → First text r
unfolding digits_piece
right_says text (ends implicit at over) base e known fits is = tt
right_says text (passes implicit at bytes answer stands rest) base e known fits is = tt
right_says text (sets implicit setting at bytes answer stands rest) base e known fits is = tt
right_says text (fails implicit at offset cause stands) base e known fits is = tt
right_says text (takes implicit at start bytes kind.Name answer stands rest) base e known fits is = tt
right_says text (takes implicit at start bytes (kind.Keyword place) answer stands rest) base e known fits is = tt
right_says text (takes implicit at start bytes (kind.Mark byte) answer stands rest) base e known fits is = tt
right_says text (takes implicit at start bytes (kind.Number number) answer stands rest) base e known fits is =
    let h = rw fits at (rw known at (rw e at stands.is)) in absurd (cc)
right_says text (takes implicit at start bytes (kind.Constant size value) answer stands rest) base e known fits is =
    let h = rw fits at (rw known at (rw e at stands.is)) in
    let same_size : size_of (drop at text) ≡ size = cc in
    let same_value : value_of (radix_of base) (digits_of (is_digit_of base) (drop at text)) % 2 ^ size_of (drop at text) ≡ value = cc in
    let begin : start ≡ 0 = cc in
    let end : bytes ≡ digits_place (drop at text) + digits_len (is_digit_of base) (drop at text) = cc in
    let here : at ≡ at + start = omega (arith, begin) in
    let there : at + (digits_place (drop at text) + digits_len (is_digit_of base) (drop at text)) ≡ at + bytes = omega (arith, end) in
    subst (λ n. IsConstant text (at + start) (at + bytes) n value) same_size
    (subst (λ v. IsConstant text (at + start) (at + bytes) (size_of (drop at text)) v) same_value
    (subst (λ a. IsConstant text a (at + bytes) (size_of (drop at text)) (value_of (radix_of base) (digits_of (is_digit_of base) (drop at text)) % 2 ^ size_of (drop at text))) here
    (subst (λ b. IsConstant text at b (size_of (drop at text)) (value_of (radix_of base) (digits_of (is_digit_of base) (drop at text)) % 2 ^ size_of (drop at text))) there is)))
