-- Numbers and sized constants.
-- The rule is told in docs/FORMATS.md, "Tokens".
use Rattle.std.specs.Prelude.{ℕ, ◌+◌, ◌-◌, ◌*◌, ◌%◌, ◌^◌, Bool, ◌==◌, ◌&&◌, nat_lt, nat_le, List, take, drop, if◌then◌else◌, Option, Some, None, fold, slice_index, codes}
use Rattle.std.specs.Option.{option_map_or}
use Rattle.std.specs.Char.{is_ascii_digit}
use Rattle.verilog_lex.specs.declared.bytes.Base.{Base}
use Rattle.verilog_lex.specs.declared.bytes.Base.TheVariants.{Binary, Octal, Decimal, Hexadecimal}
use Rattle.verilog_lex.specs.declared.bytes.Class.TheVariants as class
use Rattle.verilog_lex.specs.declared.fault.Cause.TheVariants as cause
use Rattle.verilog_lex.specs.declared.piece.Piece.{Piece}
use Rattle.verilog_lex.specs.declared.piece.Piece.TheVariants.{Lexeme, Fault}
use Rattle.verilog_lex.specs.declared.token.TokenKind.TheVariants as kind
use Rattle.verilog_lex.specs.Bytes.{apostrophe, underscore, is_one_of, is_digit_of, run, first}

-- the number that a digit stands for: 0 to 9, and a to f in either case for 10 to 15
abbrev pub digit_value : ℕ → ℕ
digit_value d =
    if is_ascii_digit d then d - 48
    else (if nat_le 97 d then d - 97 + 10
    else (if nat_le 65 d then d - 65 + 10 else 0))

abbrev pub radix_of : Base → ℕ
radix_of Binary = 2
radix_of Octal = 8
radix_of Decimal = 10
radix_of Hexadecimal = 16

-- a value with one more digit behind it; an `_` stands for nothing
abbrev pub add_digit : ℕ → ℕ → ℕ → ℕ
add_digit radix value d = if d == underscore then value else value * radix + digit_value d

-- the number that digits stand for
abbrev pub value_of : ℕ → List ℕ → ℕ
value_of radix digits = fold (add_digit radix) 0 digits

-- the base that the letter after the apostrophe names, in either case
abbrev pub base_of : ℕ → Option Base
base_of letter =
    if is_one_of (codes "bB") letter then Some Binary
    else (if is_one_of (codes "oO") letter then Some Octal
    else (if is_one_of (codes "dD") letter then Some Decimal
    else (if is_one_of (codes "hH") letter then Some Hexadecimal
    else None)))

-- the digits of a constant begin with one of its base, its size is from 1 to 128, and its value is below 2^128
abbrev pub is_constant : ℕ → Base → List ℕ → Bool
is_constant size base digits =
    is_digit_of base (first digits) && nat_le 1 size && nat_le size 128 && nat_lt (value_of (radix_of base) digits) (2 ^ 128)

-- a constant whose digits begin after so many bytes: the digits are the longest run of digits of its base, `_` and
-- unknown ones; the first unknown one is a fault there
unfoldable pub digits_piece : List ℕ → ℕ → Base → ℕ → Piece
digits_piece text size base start =
    let rest = drop start text in
    let count = run (class.Digits base) rest in
    let digits = take count rest in
    let known = run class.Known digits in
    if nat_lt known count then Fault cause.Digit (start + known)
    else (if is_constant size base digits then Lexeme (kind.Constant size (value_of (radix_of base) digits % 2 ^ size)) 0 (start + count)
    else Fault cause.Number 0)

-- a constant whose base is named after so many bytes; white space may stand before its digits
unfoldable pub constant_piece : List ℕ → ℕ → ℕ → Piece
constant_piece text size letter =
    option_map_or (λ base. digits_piece text size base (letter + 1 + run class.White (drop (letter + 1) text))) (base_of (slice_index text letter)) (Fault cause.Number 0)

-- a number is the longest run of digits and `_`; it is at most 4294967295, and with an apostrophe after it, and white
-- space or none between, it is the size of a constant
unfoldable pub number_piece : List ℕ → Piece
number_piece text =
    let count = run class.Number text in
    let number = value_of 10 (take count text) in
    let quote = count + run class.White (drop count text) in
    if nat_lt 4294967295 number then Fault cause.Number 0
    else (if slice_index text quote == apostrophe then constant_piece text number (quote + 1)
    else Lexeme (kind.Number number) 0 count)
