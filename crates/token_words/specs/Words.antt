-- The words of a list of tokens.
-- The rule is told in docs/FORMATS.md, "Tokens".
use Rattle.std.specs.Prelude.{map, ℕ, List, [], option_map, slice_get, unwrap_or}
use Rattle.std.specs.List.{slice_range}
use Rattle.verilog_lex.specs.declared.token.Token.{Token}
use Rattle.verilog_lex.specs.declared.token.TokenKind.{TokenKind}
use Rattle.verilog_lex.specs.declared.token.TokenKind.TheVariants.{Name}
use Rattle.token_words.specs.Word.{Word}

-- these bytes for a name, none for any other kind
abbrev pub bytes_of : TokenKind → List ℕ → List ℕ
bytes_of Name bytes = bytes
bytes_of _ _ = []

-- a token's text is the source from its start up to its end
abbrev pub name_of : List ℕ → Token → List ℕ
name_of source token = bytes_of token.kind (slice_range source token.start token.end)

-- what a token says
abbrev pub word_of : List ℕ → Token → Word
word_of source token = record { kind = token.kind; name = name_of source token }

-- all words, first to last
abbrev pub words_of : List ℕ → List Token → List Word
words_of source tokens = map (word_of source) tokens

-- what the tokens are
abbrev pub kinds_of : List Token → List TokenKind
kinds_of tokens = map (λ t. t.kind) tokens

-- the bytes of the name at a place, none where no name is there
abbrev pub name_at : List Word → ℕ → List ℕ
name_at words place = unwrap_or (option_map (λ w. w.name) (slice_get words place)) []
