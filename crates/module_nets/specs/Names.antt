-- Names as texts, and the tokens that say them.
-- The rule is told in docs/FORMATS.md, "Names and widths".
use Rattle.std.specs.Prelude.{◌≡◌, ℕ, Bool, false, not, List, [], ◌∷◌, filter, slice_get, bytes_eq}
use Rattle.std.specs.List.{list_any}
use Rattle.std.specs.Option.{option_map_or}
use Rattle.verilog_lex.specs.declared.token.Token.{Token}
use Rattle.token_words.specs.Words.{name_at, words_of}
use Rattle.id_arena.specs.Names.{with_name}

-- a name, by its bytes
abbrev pub Name : Type 0
Name = List ℕ

-- the name that a token is; no bytes for any other token
unfoldable pub text_of : List ℕ → List Token → ℕ → Name
text_of source tokens place = name_at (words_of source tokens) place

-- whether an undeclared name becomes a wire at a token
abbrev pub is_implicit : List Token → ℕ → Bool
is_implicit tokens place = option_map_or (λ token. token.implicit) (slice_get tokens place) false

-- the byte of the text at which a token begins
abbrev pub start_of : List Token → ℕ → ℕ
start_of tokens place = option_map_or (λ token. token.start) (slice_get tokens place) 0

-- whether a name is one of these
abbrev pub is_among : List Name → Name → Bool
is_among names name = list_any (bytes_eq name) names

-- each name once, in the order of their first places
unfoldable pub first_uses : List Name → List Name
first_uses [] = []
first_uses (name ∷ later) = name ∷ filter (λ other. not (bytes_eq name other)) (first_uses later)

-- no name comes again after it
unfoldable pub AreDifferent : List Name → Type 0
AreDifferent [] = Unit {0}
AreDifferent (name ∷ later) = (is_among later name ≡ false) × AreDifferent later

-- the names after more of them are interned, one by one
abbrev pub with_names : List Name → List Name → List Name
with_names names [] = names
with_names names (name ∷ later) = with_names (with_name names name) later
