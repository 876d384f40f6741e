-- The classes of bytes, and the longest runs of one class.
-- The rule is told in docs/FORMATS.md, "Tokens".
use Rattle.std.specs.Prelude.{ℕ, Bool, not, ◌==◌, ◌&&◌, ◌||◌, nat_le, List, slice_index, codes}
use Rattle.std.specs.List.{list_any, prefix_len}
use Rattle.std.specs.Char.{is_ascii_digit, is_ascii_hexdigit, is_ascii_alphanumeric}
use Rattle.verilog_lex.specs.declared.bytes.Base.{Base}
use Rattle.verilog_lex.specs.declared.bytes.Base.TheVariants.{Binary, Octal, Decimal, Hexadecimal}
use Rattle.verilog_lex.specs.declared.bytes.Class.{Class}
use Rattle.verilog_lex.specs.declared.bytes.Class.TheVariants.{White, Line, Name, Escaped, Number, Digits, Known}

-- the bytes by which the forms are told
abbrev pub star : ℕ
star = 42

abbrev pub slash : ℕ
slash = 47

abbrev pub backslash : ℕ
backslash = 92

abbrev pub opening : ℕ
opening = 40

abbrev pub closing : ℕ
closing = 41

abbrev pub double_quote : ℕ
double_quote = 34

abbrev pub apostrophe : ℕ
apostrophe = 39

abbrev pub backquote : ℕ
backquote = 96

abbrev pub underscore : ℕ
underscore = 95

abbrev pub dollar : ℕ
dollar = 36

abbrev pub newline : ℕ
newline = 10

-- a byte is one of these
abbrev pub is_one_of : List ℕ → ℕ → Bool
is_one_of bytes b = list_any (λ byte. b == byte) bytes

-- white space is space, tab, newline, form feed and carriage return
abbrev pub is_white : ℕ → Bool
is_white b = b == 32 || b == 9 || b == 10 || b == 12 || b == 13

-- the digits of unknown value are `?`, and `x` and `z` in either case
abbrev pub is_unknown : ℕ → Bool
is_unknown b = is_one_of (codes "?xXzZ") b

-- the digits of a base
abbrev pub is_digit_of : Base → ℕ → Bool
is_digit_of Binary b = b == 48 || b == 49
is_digit_of Octal b = nat_le 48 b && nat_le b 55
is_digit_of Decimal b = is_ascii_digit b
is_digit_of Hexadecimal b = is_ascii_hexdigit b

-- the bytes of each class: white space; a line, all but the newline; a simple name, letters, digits, `_` and `$`;
-- an escaped name, 33 to 126; a plain number, digits and `_`; the digits of a constant, those of its base, `_` and the
-- unknown ones; and all but the unknown ones
abbrev pub is_in : Class → ℕ → Bool
is_in White b = is_white b
is_in Line b = not (b == newline)
is_in Name b = is_ascii_alphanumeric b || b == underscore || b == dollar
is_in Escaped b = nat_le 33 b && nat_le b 126
is_in Number b = is_ascii_digit b || b == underscore
is_in (Digits base) b = is_digit_of base b || b == underscore || is_unknown b
is_in Known b = not (is_unknown b)

-- how many bytes the longest run of a class has with which a text begins
abbrev pub run : Class → List ℕ → ℕ
run class text = prefix_len (is_in class) text

-- the first and the second byte of a text; 0 stands for a byte that is not there, and no form begins or goes on with it
abbrev pub first : List ℕ → ℕ
first text = slice_index text 0

abbrev pub second : List ℕ → ℕ
second text = slice_index text 1
