-- What numbers and sized constants say, by sums of their digits.
-- The rule is told in docs/FORMATS.md, "Tokens".
use Rattle.std.specs.Prelude.{◌≡◌, ℕ, suc, ◌+◌, ◌*◌, ◌%◌, ◌^◌, ◌<◌, ◌≤◌, ◌⊎◌, true, List, [], ◌∷◌, length, Ok, Some, Contains, slice_get, slice_range, codes}
use Rattle.std.specs.List.{list_all}
use Rattle.verilog_lex.specs.declared.token.Token.{Token}
use Rattle.verilog_lex.specs.declared.token.TokenKind.{TokenKind}
use Rattle.verilog_lex.specs.declared.token.TokenKind.TheVariants as kind
use Rattle.verilog_lex.specs.Bytes.{apostrophe, underscore, is_white}
use Rattle.verilog_lex.specs.Reads.{Reads}

-- a byte writes a digit that is below a base: it stands at the digit's place among these, in lower or in upper case
pub record Writes (base b digit : ℕ) : Type 0 where
  pub small : digit < base
  pub at : (slice_get (codes "0123456789abcdef") digit ≡ Some b) ⊎ (slice_get (codes "0123456789ABCDEF") digit ≡ Some b)

-- bytes spell digits of a base: each writes one of them, in their order, or is an `_`, which writes none
pub data Spells (base : ℕ) : List ℕ → List ℕ → Type 0 where
  empty : Spells base [] []
  skips : (bytes digits : List ℕ) → Spells base bytes digits → Spells base (underscore ∷ bytes) digits
  writes : (b digit : ℕ) (bytes digits : List ℕ) → Writes base b digit → Spells base bytes digits → Spells base (b ∷ bytes) (digit ∷ digits)

-- the sum of digits, each times that power of the base which is the number of digits behind it
abbrev pub sum_of : ℕ → List ℕ → ℕ
sum_of base [] = 0
sum_of base (digit ∷ digits) = digit * base ^ length digits + sum_of base digits

-- bytes that spell digits with this sum
pub record IsSpelled (base : ℕ) (bytes : List ℕ) (number : ℕ) : Type 0 where
  pub digits : List ℕ
  pub spelled : Spells base bytes digits
  pub sum : number ≡ sum_of base digits

-- digits of a base go on no further than up to a place: the text ends there, or the byte there writes none and is no `_`
abbrev pub Stops : ℕ → List ℕ → ℕ → Type 0
Stops base text place = (b : ℕ) → slice_get text place ≡ Some b → (b ≡ underscore → ⊥) × ((digit : ℕ) → Writes base b digit → ⊥)

-- the letters of the bases
pub data Names (letter : ℕ) : ℕ → Type 0 where
  binary : Contains (codes "bB") letter → Names letter 2
  octal : Contains (codes "oO") letter → Names letter 8
  decimal : Contains (codes "dD") letter → Names letter 10
  hexadecimal : Contains (codes "hH") letter → Names letter 16

-- from a place of a text up to another stand the size, white space, a quote, the letter of a base, white space, and
-- digits of that base, as many as there are; the value is their sum, cut to so many bits as the size says
pub record IsConstant (text : List ℕ) (from to size value : ℕ) : Type 0 where
  pub base : ℕ
  pub letter : ℕ
  pub number : ℕ
  -- where the size ends, where the quote stands, and where the digits begin
  pub end : ℕ
  pub quote : ℕ
  pub start : ℕ
  pub ordered : (from ≤ end) × (end ≤ quote) × (quote + 2 ≤ start) × (start ≤ to)
  pub size_is : IsSpelled 10 (slice_range text from end) size
  pub white_before : list_all is_white (slice_range text end quote) ≡ true
  pub quoted : slice_get text quote ≡ Some apostrophe
  pub named : slice_get text (suc quote) ≡ Some letter
  pub base_is : Names letter base
  pub white_behind : list_all is_white (slice_range text (quote + 2) start) ≡ true
  pub number_is : IsSpelled base (slice_range text start to) number
  pub stops : Stops base text to
  pub value_is : value ≡ number % 2 ^ size

-- what the kind of a token says, if it is a number or a constant, is what the bytes of the token say
abbrev pub Says : List ℕ → ℕ → ℕ → TokenKind → Type 0
Says text start end kind.Name = Unit {0}
Says text start end (kind.Keyword place) = Unit {0}
Says text start end (kind.Number number) = (IsSpelled 10 (slice_range text start end) number) × (Stops 10 text end)
Says text start end (kind.Constant size value) = IsConstant text start end size value
Says text start end (kind.Mark byte) = Unit {0}

-- each token of a text says what its bytes say
abbrev pub TokensSayDigits : Type 0
TokensSayDigits = (text : List ℕ) (tokens : List Token) → Reads text true 0 (Ok tokens) → (k : ℕ) (token : Token) → slice_get tokens k ≡ Some token → Says text token.start token.end token.kind
