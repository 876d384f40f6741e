-- What the grammar sees of a token.
-- The rule is told in docs/FORMATS.md, "The grammar".
use Rattle.std.specs.Prelude.{◌≡◌, ℕ, Bool, true, false, if◌then◌else◌, ◌==◌, ◌||◌}
use Rattle.verilog_lex.specs.declared.token.Token.{Token}
use Rattle.verilog_lex.specs.declared.token.TokenKind.{TokenKind}
use Rattle.verilog_lex.specs.declared.token.TokenKind.TheVariants.{Name as NameToken, Keyword, Number as NumberToken, Constant as ConstantToken, Mark as MarkToken}
use Rattle.verilog_tree.specs.declared.terminal.Terminal.{Terminal}
use Rattle.verilog_tree.specs.declared.terminal.Terminal.TheVariants.{Name, Number, Constant, Module, EndModule, Direction, Wire, Supply, Assign, Gate, Reserved, OpenParen, CloseParen, OpenBracket, CloseBracket, OpenBrace, CloseBrace, Comma, Semicolon, Colon, Equals, Dot, Stray}
use Rattle.verilog_tree.specs.declared.source.Dir.TheVariants.{Input, Output}
use Rattle.verilog_lex.specs.declared.keyword.TheConstants.{AND, ASSIGN, BUF, ENDMODULE, INPUT, MODULE, NAND, NOR, NOT, OR, OUTPUT, SUPPLY0, SUPPLY1, WIRE, XNOR, XOR}

-- the mark of a byte
abbrev pub mark_of : ℕ → Terminal
mark_of byte =
    if byte == 40 then OpenParen
    else if byte == 41 then CloseParen
    else if byte == 91 then OpenBracket
    else if byte == 93 then CloseBracket
    else if byte == 123 then OpenBrace
    else if byte == 125 then CloseBrace
    else if byte == 44 then Comma
    else if byte == 59 then Semicolon
    else if byte == 58 then Colon
    else if byte == 61 then Equals
    else if byte == 46 then Dot
    else Stray

-- whether the reserved word at this place is the word of a gate
abbrev pub is_gate : ℕ → Bool
is_gate place =
    place == AND || place == NAND || place == OR || place == NOR || place == XOR || place == XNOR
    || place == BUF || place == NOT

-- the reserved word at this place of their list
abbrev pub word_of : ℕ → Terminal
word_of place =
    if place == MODULE then Module
    else if place == ENDMODULE then EndModule
    else if place == INPUT then Direction Input
    else if place == OUTPUT then Direction Output
    else if place == WIRE then Wire
    else if place == SUPPLY0 then Supply false
    else if place == SUPPLY1 then Supply true
    else if place == ASSIGN then Assign
    else if is_gate place then Gate
    else Reserved

-- what the grammar sees of a token of this kind
abbrev pub terminal_of : TokenKind → Terminal
terminal_of NameToken = Name
terminal_of (Keyword place) = word_of place
terminal_of (NumberToken value) = Number value
terminal_of (ConstantToken size value) = Constant
terminal_of (MarkToken byte) = mark_of byte

-- what the grammar sees of a token
abbrev pub terminal_at : Token → Terminal
terminal_at token = terminal_of token.kind

-- whether a terminal has no value
abbrev pub is_plain : Terminal → Bool
is_plain (Number value) = false
is_plain (Direction dir) = false
is_plain (Supply one) = false
is_plain _ = true

-- a number for each terminal that has no value
abbrev pub code_of : Terminal → ℕ
code_of Name = 0
code_of Constant = 1
code_of Module = 2
code_of EndModule = 3
code_of Wire = 4
code_of Assign = 5
code_of Gate = 6
code_of Reserved = 7
code_of OpenParen = 8
code_of CloseParen = 9
code_of OpenBracket = 10
code_of CloseBracket = 11
code_of OpenBrace = 12
code_of CloseBrace = 13
code_of Comma = 14
code_of Semicolon = 15
code_of Colon = 16
code_of Equals = 17
code_of Dot = 18
code_of Stray = 19
code_of (Number value) = 255
code_of (Direction dir) = 255
code_of (Supply one) = 255
