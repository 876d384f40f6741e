-- The tokens of a text, or its first fault.
-- The rule is told in docs/FORMATS.md, "Tokens".
use Rattle.std.specs.Prelude.{◌≡◌, ℕ, ◌+◌, ◌<◌, ◌≤◌, Bool, true, List, [], ◌∷◌, length, drop, Result, Ok, Err}
use Rattle.verilog_lex.specs.declared.fault.Cause.{Cause}
use Rattle.verilog_lex.specs.declared.fault.LexFault.{LexFault}
use Rattle.verilog_lex.specs.declared.fault.LexFault.TheVariants.{NoMemory}
use Rattle.verilog_lex.specs.declared.piece.Piece.{Piece}
use Rattle.verilog_lex.specs.declared.piece.Piece.TheVariants.{Blank, Setting, Lexeme, Fault}
use Rattle.verilog_lex.specs.declared.token.Token.{Token}
use Rattle.verilog_lex.specs.declared.token.TokenKind.{TokenKind}
use Rattle.verilog_lex.specs.Pieces.{first_piece, fault_at}

-- at this place, which is not the end of the text, this piece begins
pub record Stands (text : List ℕ) (at : ℕ) (piece : Piece) : Type 0 where
  pub inside : at < length text
  pub is : first_piece (drop at text) ≡ piece

-- an answer with one more token before its tokens
abbrev pub with_token : Token → Result (List Token) LexFault → Result (List Token) LexFault
with_token token (Ok tokens) = Ok (token ∷ tokens)
with_token token (Err fault) = Err fault

-- what a text holds from a place on, where undeclared names become wires or not: its tokens, or its first fault
pub data Reads (text : List ℕ) : Bool → ℕ → Result (List Token) LexFault → Type 0 where
  -- at the end there are no tokens
  ends : (implicit : Bool) (at : ℕ) → length text ≤ at → Reads text implicit at (Ok [])
  -- white space, comments, attributes and some directives are passed over
  passes : (implicit : Bool) (at bytes : ℕ) (answer : Result (List Token) LexFault) → Stands text at (Blank bytes) → Reads text implicit (at + bytes) answer → Reads text implicit at answer
  -- some directives say what becomes of undeclared names after them
  sets : (implicit setting : Bool) (at bytes : ℕ) (answer : Result (List Token) LexFault) → Stands text at (Setting setting bytes) → Reads text setting (at + bytes) answer → Reads text implicit at answer
  -- a token is put before those that come after it
  takes : (implicit : Bool) (at start bytes : ℕ) (kind : TokenKind) (answer : Result (List Token) LexFault) → Stands text at (Lexeme kind start bytes) → Reads text implicit (at + bytes) answer → Reads text implicit at (with_token (record { kind = kind; start = at + start; end = at + bytes; implicit = implicit }) answer)
  -- a fault is the answer
  fails : (implicit : Bool) (at offset : ℕ) (cause : Cause) → Stands text at (Fault cause offset) → Reads text implicit at (Err (fault_at cause (at + offset)))

-- what `tokens` answers: what the text holds from its start on, where undeclared names become wires, or want of memory
abbrev pub Answers : List ℕ → Result (List Token) LexFault → Type 0
Answers text (Err NoMemory) = Unit {0}
Answers text answer = Reads text true 0 answer

-- the text of a token is a part of the source, of one byte at least
abbrev pub IsPartOf : List ℕ → Token → Type 0
IsPartOf source token = (token.start < token.end) × (token.end ≤ length source)

-- each text holds one thing: it has an answer, and no other
abbrev pub EachTextHasOneAnswer : Type 0
EachTextHasOneAnswer = (text : List ℕ) → (answer : Result (List Token) LexFault) × (Reads text true 0 answer) × ((other : Result (List Token) LexFault) → Reads text true 0 other → other ≡ answer)
