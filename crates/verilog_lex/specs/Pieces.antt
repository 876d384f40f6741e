-- The pieces that a text is cut into.
-- The rule is told in docs/FORMATS.md, "Tokens".
use Rattle.std.specs.Prelude.{ℕ, ◌+◌, ◌-◌, ◌<◌, ◌≤◌, Bool, true, false, ◌==◌, ◌&&◌, ◌||◌, nat_lt, List, length, take, drop, if◌then◌else◌, codes, bytes_eq}
use Rattle.std.specs.Option.{option_map_or}
use Rattle.std.specs.Char.{is_ascii_digit, is_ascii_alphabetic}
use Rattle.verilog_lex.specs.declared.bytes.Class.TheVariants as class
use Rattle.verilog_lex.specs.declared.fault.Cause.{Cause}
use Rattle.verilog_lex.specs.declared.fault.Cause.TheVariants as cause
use Rattle.verilog_lex.specs.declared.fault.LexFault.{LexFault}
use Rattle.verilog_lex.specs.declared.fault.LexFault.TheVariants as lex
use Rattle.verilog_lex.specs.declared.piece.Piece.{Piece}
use Rattle.verilog_lex.specs.declared.piece.Piece.TheVariants.{Blank, Setting, Lexeme, Fault}
use Rattle.verilog_lex.specs.declared.token.TokenKind.TheVariants as kind
use Rattle.verilog_lex.specs.Bytes.{star, slash, backslash, opening, apostrophe, backquote, underscore, is_one_of, is_white, run, first, second}
use Rattle.verilog_lex.specs.Blanks.{blank_len, after_blanks}
use Rattle.verilog_lex.specs.Words.{word_kind}
use Rattle.verilog_lex.specs.Numbers.{number_piece}

-- the fault of a cause at a byte
abbrev pub fault_at : Cause → ℕ → LexFault
fault_at cause.Byte at = lex.BadByte at
fault_at cause.Comment at = lex.OpenComment at
fault_at cause.Attribute at = lex.OpenAttribute at
fault_at cause.Number at = lex.BadNumber at
fault_at cause.Digit at = lex.UnknownDigit at
fault_at cause.Backquote at = lex.Directive at

-- a simple name is the longest run of letters, digits, `_` and `$`; some are reserved words
unfoldable pub word_piece : List ℕ → Piece
word_piece text = let count = run class.Name text in Lexeme (word_kind (take count text)) 0 count

-- a text ends here, or white space stands here
abbrev pub is_parted : List ℕ → Bool
is_parted text = length text == 0 || is_white (first text)

-- an escaped name is the longest run of bytes 33 to 126 after the backslash; it has one at least, and white space or the
-- end of the text comes next
unfoldable pub escaped_piece : List ℕ → Piece
escaped_piece text =
    let count = run class.Escaped (drop 1 text) in
    if nat_lt 0 count && is_parted (drop (1 + count) text) then Lexeme kind.Name 1 (1 + count)
    else Fault cause.Byte 0

-- `default_nettype`, whose name ends after so many bytes: the next word after white space, comments and attributes is
-- `wire` or `none`
unfoldable pub setting_piece : List ℕ → ℕ → Piece
setting_piece text bytes =
    let rest = after_blanks 0 (drop bytes text) in
    let count = run class.Name rest in
    let end = length text - length rest + count in
    if bytes_eq (take count rest) (codes "wire") then Setting true end
    else (if bytes_eq (take count rest) (codes "none") then Setting false end
    else Fault cause.Backquote 0)

-- the directives that tell where cells begin and end
abbrev pub is_cell_directive : List ℕ → Bool
is_cell_directive name = bytes_eq name (codes "celldefine") || bytes_eq name (codes "endcelldefine")

-- a directive is named by the longest run of letters, digits, `_` and `$` after its backquote: `timescale` goes on to the
-- end of its line, `celldefine` and `endcelldefine` change nothing, `resetall` sets the default to `wire`
unfoldable pub directive_piece : List ℕ → Piece
directive_piece text =
    let bytes = 1 + run class.Name (drop 1 text) in
    let name = take (bytes - 1) (drop 1 text) in
    if bytes_eq name (codes "timescale") then Blank (run class.Line text)
    else (if is_cell_directive name then Blank bytes
    else (if bytes_eq name (codes "resetall") then Setting true bytes
    else (if bytes_eq name (codes "default_nettype") then setting_piece text bytes
    else Fault cause.Backquote 0)))

-- the marks are `( ) [ ] { } , ; : = .`
abbrev pub is_mark : ℕ → Bool
is_mark b = is_one_of (codes "()[]{},;:=.") b

-- what a text begins with that begins with no white space and with no whole comment or attribute, by its first byte: a
-- name, a number, an escaped name, a directive, an apostrophe without a number, an open comment or attribute, a mark; no other
-- byte begins anything
unfoldable pub token_piece : List ℕ → Piece
token_piece text =
    if is_ascii_alphabetic (first text) || first text == underscore then word_piece text
    else (if is_ascii_digit (first text) then number_piece text
    else (if first text == backslash then escaped_piece text
    else (if first text == backquote then directive_piece text
    else (if first text == apostrophe then Fault cause.Number 0
    else (if first text == slash && second text == star then Fault cause.Comment 0
    else (if first text == opening && second text == star then Fault cause.Attribute 0
    else (if is_mark (first text) then Lexeme (kind.Mark (first text)) 0 1
    else Fault cause.Byte 0)))))))

-- what a text begins with
unfoldable pub first_piece : List ℕ → Piece
first_piece text = option_map_or Blank (blank_len text) (token_piece text)

-- a piece has a byte and lies within so many bytes; so does a token's text, and a fault's place is one of them
abbrev pub IsWithin : ℕ → Piece → Type 0
IsWithin size (Blank bytes) = (0 < bytes) × (bytes ≤ size)
IsWithin size (Setting setting bytes) = (0 < bytes) × (bytes ≤ size)
IsWithin size (Lexeme kind start bytes) = (start < bytes) × (bytes ≤ size)
IsWithin size (Fault cause offset) = offset < size
