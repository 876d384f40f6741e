-- The reserved words that the grammar uses.
-- The rule is told in docs/FORMATS.md, "Tokens".
use Rattle.std.specs.Prelude.{◌≡◌, ℕ, List, Some, codes, slice_get}
use Rattle.verilog_lex.specs.Words.{reserved_words}
use Rattle.verilog_lex.specs.declared.keyword.TheConstants.{AND, ASSIGN, BUF, ENDMODULE, INPUT, MODULE, NAND, NOR, NOT, OR, OUTPUT, SUPPLY0, SUPPLY1, WIRE, XNOR, XOR}

-- the reserved word at a place is this text
abbrev pub IsKeyword : ℕ → List ℕ → Type 0
IsKeyword place text = slice_get reserved_words place ≡ Some text

-- each constant is the place of the word that it is named for
pub record KeywordsAreNamed : Type 0 where
  pub and_named : IsKeyword AND (codes "and")
  pub assign_named : IsKeyword ASSIGN (codes "assign")
  pub buf_named : IsKeyword BUF (codes "buf")
  pub endmodule_named : IsKeyword ENDMODULE (codes "endmodule")
  pub input_named : IsKeyword INPUT (codes "input")
  pub module_named : IsKeyword MODULE (codes "module")
  pub nand_named : IsKeyword NAND (codes "nand")
  pub nor_named : IsKeyword NOR (codes "nor")
  pub not_named : IsKeyword NOT (codes "not")
  pub or_named : IsKeyword OR (codes "or")
  pub output_named : IsKeyword OUTPUT (codes "output")
  pub supply0_named : IsKeyword SUPPLY0 (codes "supply0")
  pub supply1_named : IsKeyword SUPPLY1 (codes "supply1")
  pub wire_named : IsKeyword WIRE (codes "wire")
  pub xnor_named : IsKeyword XNOR (codes "xnor")
  pub xor_named : IsKeyword XOR (codes "xor")
