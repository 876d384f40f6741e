-- The reserved words.
-- The rule is told in docs/FORMATS.md, "Tokens".
use Rattle.std.specs.Prelude.{ℕ, ◌<◌, ◌≤◌, List, [], ◌∷◌, length, slice_index_or, codes, position, bytes_eq}
use Rattle.std.specs.Option.{option_map_or}
use Rattle.verilog_lex.specs.declared.token.TokenKind.{TokenKind}
use Rattle.verilog_lex.specs.declared.token.TokenKind.TheVariants.{Name, Keyword}
use Rattle.verilog_lex.specs.Bytes.{first}

-- the reserved words in their order
unfoldable pub reserved_words : List (List ℕ)
reserved_words =
    codes "always" ∷ codes "and" ∷ codes "assign" ∷ codes "automatic" ∷ codes "begin" ∷ codes "buf" ∷
    codes "bufif0" ∷ codes "bufif1" ∷ codes "case" ∷ codes "casex" ∷ codes "casez" ∷ codes "cell" ∷
    codes "cmos" ∷ codes "config" ∷ codes "deassign" ∷ codes "default" ∷ codes "defparam" ∷ codes "design" ∷
    codes "disable" ∷ codes "edge" ∷ codes "else" ∷ codes "end" ∷ codes "endcase" ∷ codes "endconfig" ∷
    codes "endfunction" ∷ codes "endgenerate" ∷ codes "endmodule" ∷ codes "endprimitive" ∷
    codes "endspecify" ∷ codes "endtable" ∷ codes "endtask" ∷ codes "event" ∷ codes "for" ∷ codes "force" ∷
    codes "forever" ∷ codes "fork" ∷ codes "function" ∷ codes "generate" ∷ codes "genvar" ∷ codes "highz0" ∷
    codes "highz1" ∷ codes "if" ∷ codes "ifnone" ∷ codes "incdir" ∷ codes "include" ∷ codes "initial" ∷
    codes "inout" ∷ codes "input" ∷ codes "instance" ∷ codes "integer" ∷ codes "join" ∷ codes "large" ∷
    codes "liblist" ∷ codes "library" ∷ codes "localparam" ∷ codes "macromodule" ∷ codes "medium" ∷
    codes "module" ∷ codes "nand" ∷ codes "negedge" ∷ codes "nmos" ∷ codes "nor" ∷ codes "noshowcancelled" ∷
    codes "not" ∷ codes "notif0" ∷ codes "notif1" ∷ codes "or" ∷ codes "output" ∷ codes "parameter" ∷
    codes "pmos" ∷ codes "posedge" ∷ codes "primitive" ∷ codes "pull0" ∷ codes "pull1" ∷ codes "pulldown" ∷
    codes "pullup" ∷ codes "pulsestyle_onevent" ∷ codes "pulsestyle_ondetect" ∷ codes "rcmos" ∷
    codes "real" ∷ codes "realtime" ∷ codes "reg" ∷ codes "release" ∷ codes "repeat" ∷ codes "rnmos" ∷
    codes "rpmos" ∷ codes "rtran" ∷ codes "rtranif0" ∷ codes "rtranif1" ∷ codes "scalared" ∷
    codes "showcancelled" ∷ codes "signed" ∷ codes "small" ∷ codes "specify" ∷ codes "specparam" ∷
    codes "strong0" ∷ codes "strong1" ∷ codes "supply0" ∷ codes "supply1" ∷ codes "table" ∷ codes "task" ∷
    codes "time" ∷ codes "tran" ∷ codes "tranif0" ∷ codes "tranif1" ∷ codes "tri" ∷ codes "tri0" ∷
    codes "tri1" ∷ codes "triand" ∷ codes "trior" ∷ codes "trireg" ∷ codes "unsigned" ∷ codes "use" ∷
    codes "uwire" ∷ codes "vectored" ∷ codes "wait" ∷ codes "wand" ∷ codes "weak0" ∷ codes "weak1" ∷
    codes "while" ∷ codes "wire" ∷ codes "wor" ∷ codes "xnor" ∷ codes "xor" ∷ []

-- from a place on, and only there, words begin with a letter or a later one
pub record Splits (letter place : ℕ) (words : List (List ℕ)) : Type 0 where
  pub within : place ≤ length words
  pub earlier : (k : ℕ) → k < place → first (slice_index_or words k []) < letter
  pub later : (k : ℕ) → place ≤ k → k < length words → letter ≤ first (slice_index_or words k [])

-- what a word is that is not escaped: the reserved word at its place, or a name
abbrev pub word_kind : List ℕ → TokenKind
word_kind word = option_map_or Keyword (position (bytes_eq word) reserved_words) Name
