-- Inside: how tokens are stored.
use Rattle.std.specs.Prelude.{ℕ, ◌<◌, ◌≤◌, ◌^◌, List, [], ◌∷◌, length, get_or, All}
use Rattle.verilog_lex.specs.declared.token.Constant.{Constant}
use Rattle.verilog_lex.specs.declared.token.Form.{Form}
use Rattle.verilog_lex.specs.declared.token.Form.TheVariants as form
use Rattle.verilog_lex.specs.declared.token.Row.{Row}
use Rattle.verilog_lex.specs.declared.token.Token.{Token}
use Rattle.verilog_lex.specs.declared.token.TokenKind.{TokenKind}
use Rattle.verilog_lex.specs.declared.token.TokenKind.TheVariants as kind

-- what stands where no constant is
abbrev pub none : Constant
none = record { size = 0; value = 0 }

-- the constant at a place, as a token's kind
abbrev pub constant_at : List Constant → ℕ → TokenKind
constant_at constants place = let constant = get_or constants place none in kind.Constant constant.size constant.value

-- what a stored token is, with its number, where these are the constants
abbrev pub kind_of : List Constant → Form → ℕ → TokenKind
kind_of constants form.Name number = kind.Name
kind_of constants form.Keyword number = kind.Keyword number
kind_of constants form.Number number = kind.Number number
kind_of constants form.Constant number = constant_at constants number
kind_of constants (form.Mark byte) number = kind.Mark byte

-- the token that is stored in a row, where these are the constants
abbrev pub token_of : List Constant → Row → Token
token_of constants row = record { kind = kind_of constants row.form row.number; start = row.start; end = row.end; implicit = row.implicit }

-- the form of a kind
abbrev pub form_of : TokenKind → Form
form_of kind.Name = form.Name
form_of (kind.Keyword place) = form.Keyword
form_of (kind.Number number) = form.Number
form_of (kind.Constant size value) = form.Constant
form_of (kind.Mark byte) = form.Mark byte

-- the number that is stored beside a form; a constant's is its place among the constants
abbrev pub number_of : ℕ → TokenKind → ℕ
number_of place kind.Name = 0
number_of place (kind.Keyword word) = word
number_of place (kind.Number number) = number
number_of place (kind.Constant size value) = place
number_of place (kind.Mark byte) = 0

-- the row of a token; where it is a constant, this is its place among the constants
abbrev pub row_of : ℕ → Token → Row
row_of place token = record { number = number_of place token.kind; start = token.start; end = token.end; form = form_of token.kind; implicit = token.implicit }

-- the constants that a token of this kind brings: itself, where it is one
abbrev pub constants_of : TokenKind → List Constant
constants_of kind.Name = []
constants_of (kind.Keyword place) = []
constants_of (kind.Number number) = []
constants_of (kind.Constant size value) = record { size = size; value = value } ∷ []
constants_of (kind.Mark byte) = []

-- a constant's number is a place among so many constants
abbrev pub HasPlace : ℕ → Form → ℕ → Type 0
HasPlace count form.Name number = Unit {0}
HasPlace count form.Keyword number = Unit {0}
HasPlace count form.Number number = Unit {0}
HasPlace count form.Constant number = number < count
HasPlace count (form.Mark byte) number = Unit {0}

-- a row is a constant's only where there are enough constants for its number
abbrev pub IsHeld : ℕ → Row → Type 0
IsHeld count row = HasPlace count row.form row.number

-- the rows of fewer than 2^32 tokens, with no more constants than tokens, each row's among them
pub record AreHeld (constants : List Constant) (rows : List Row) : Type 0 where
  pub few : length rows < 2 ^ 32
  pub fewer : length constants ≤ length rows
  pub held : All (IsHeld (length constants)) rows
