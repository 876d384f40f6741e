-- A word: what a token says, whatever its place in a text.
-- The rule is told in docs/FORMATS.md, "Tokens".
use Rattle.std.specs.Prelude.{ℕ, List, []}
use Rattle.verilog_lex.specs.declared.token.TokenKind.{TokenKind}
use Rattle.verilog_lex.specs.declared.token.TokenKind.TheVariants.{Name, Keyword, Mark}

-- what a token is and, where it is a name, its bytes; no other word has bytes
pub record Word : Type 0 where
  pub kind : TokenKind
  pub name : List ℕ

-- the reserved word at a place of the list of all
abbrev pub key : ℕ → Word
key place = record { kind = Keyword place; name = [] }

-- the mark of a byte
abbrev pub mark : ℕ → Word
mark byte = record { kind = Mark byte; name = [] }

-- the name of these bytes
abbrev pub name : List ℕ → Word
name bytes = record { kind = Name; name = bytes }

-- the marks `(`, `)`, `,` and `;`
abbrev pub open_parenthesis : Word
open_parenthesis = mark 40

abbrev pub close_parenthesis : Word
close_parenthesis = mark 41

abbrev pub comma : Word
comma = mark 44

abbrev pub semicolon : Word
semicolon = mark 59
