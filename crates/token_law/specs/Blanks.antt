-- Where comments and attributes end, by places and without a reader that goes from byte to byte.
-- The rule is told in docs/FORMATS.md, "Tokens".
use Rattle.std.specs.Prelude.{◌≡◌, ℕ, ◌+◌, ◌≤◌, Bool, Result, Err, ◌⊎◌, List, [], ◌∷◌, ◌++◌, length, Some, slice_get, slice_range}
use Rattle.verilog_lex.specs.declared.fault.LexFault.{LexFault}
use Rattle.verilog_lex.specs.declared.fault.LexFault.TheVariants.{OpenComment, OpenAttribute}
use Rattle.verilog_lex.specs.declared.token.Token.{Token}
use Rattle.verilog_lex.specs.Bytes.{star, slash, backslash, opening, closing, double_quote, newline}
use Rattle.verilog_lex.specs.Reads.{Reads}
use Rattle.token_law.specs.Places.{Pair, IsLeast}

-- what a text holds where two bytes begin something that is passed over: what it holds behind the least end after them,
-- an end being two bytes too; or, where there is no end, this fault
pub data Closes (text : List ℕ) (End : ℕ → Type 0) (unclosed : LexFault) (implicit : Bool) (at : ℕ) : Result (List Token) LexFault → Type 0 where
  closed : (end : ℕ) (answer : Result (List Token) LexFault) → IsLeast (at + 2) End end → Reads text implicit (end + 2) answer → Closes text End unclosed implicit at answer
  never : ((k : ℕ) → at + 2 ≤ k → End k → ⊥) → Closes text End unclosed implicit at (Err unclosed)

-- a comment that begins with `/*` ends with the least `*/` after these two bytes
abbrev pub BlockCommentsClose : Type 0
BlockCommentsClose = (text : List ℕ) (implicit : Bool) (at : ℕ) (answer : Result (List Token) LexFault) → Pair slash star text at → Reads text implicit at answer → Closes text (Pair star slash text) (OpenComment at) implicit at answer

-- a line ends at a newline, or where the text does
abbrev pub LineEnds : List ℕ → ℕ → Type 0
LineEnds text place = (slice_get text place ≡ Some newline) ⊎ (place ≡ length text)

-- a comment that begins with `//` ends before the least end of a line after these two bytes
abbrev pub LineCommentsEnd : Type 0
LineCommentsEnd = (text : List ℕ) (implicit : Bool) (at : ℕ) (answer : Result (List Token) LexFault) → Pair slash slash text at → Reads text implicit at answer → (end : ℕ) × (IsLeast (at + 2) (LineEnds text) end) × (Reads text implicit end answer)

-- what stands in a string between its quotes: bytes that are neither a quote nor a backslash, and backslashes each with
-- the byte after it
pub data IsQuoted : List ℕ → Type 0 where
  nothing : IsQuoted []
  plain : (b : ℕ) (rest : List ℕ) → (b ≡ double_quote → ⊥) → (b ≡ backslash → ⊥) → IsQuoted rest → IsQuoted (b ∷ rest)
  taken : (b : ℕ) (rest : List ℕ) → IsQuoted rest → IsQuoted (backslash ∷ b ∷ rest)

-- bytes after which no string is open: bytes that are no quotes, and whole strings
pub data LeavesNoString : List ℕ → Type 0 where
  nothing : LeavesNoString []
  plain : (b : ℕ) (rest : List ℕ) → (b ≡ double_quote → ⊥) → LeavesNoString rest → LeavesNoString (b ∷ rest)
  whole : (quoted rest : List ℕ) → IsQuoted quoted → LeavesNoString rest → LeavesNoString (double_quote ∷ quoted ++ double_quote ∷ rest)

-- an attribute whose first byte after its opening stands at a place can end here: `*)` stands here, and no string of the
-- attribute is open
pub record AttributeEnds (text : List ℕ) (from place : ℕ) : Type 0 where
  pub closes : Pair star closing text place
  pub outside : LeavesNoString (slice_range text from place)

-- an attribute ends with the least `*)` after its opening `(*` that stands outside its strings
abbrev pub AttributesClose : Type 0
AttributesClose = (text : List ℕ) (implicit : Bool) (at : ℕ) (answer : Result (List Token) LexFault) → Pair opening star text at → Reads text implicit at answer → Closes text (AttributeEnds text (at + 2)) (OpenAttribute at) implicit at answer
