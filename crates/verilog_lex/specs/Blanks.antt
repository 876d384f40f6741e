-- White space, comments and attributes.
-- The rule is told in docs/FORMATS.md, "Tokens".
use Rattle.std.specs.Prelude.{ℕ, zero, suc, ◌+◌, ◌-◌, Bool, true, false, not, ◌==◌, ◌&&◌, List, [], ◌∷◌, drop, if◌then◌else◌, Option, Some, None, option_map, unwrap_or}
use Rattle.verilog_lex.specs.declared.bytes.Class.TheVariants.{White, Line}
use Rattle.verilog_lex.specs.Bytes.{star, slash, backslash, opening, closing, double_quote, is_white, run, first, second}

-- how many bytes a text has up to and with its first `*/`, if it has one
abbrev pub comment_len : List ℕ → Option ℕ
comment_len [] = None
comment_len (b ∷ rest) = if b == star && first rest == slash then Some 2 else option_map (λ n. n + 1) (comment_len rest)

-- how many bytes a text has up to and with the first `*)` outside strings, if it has one; the text may begin in a
-- string, where a backslash takes the next byte with it
abbrev pub attribute_len : Bool → List ℕ → Option ℕ
attribute_len quoted [] = None
attribute_len true (b ∷ []) = None
attribute_len true (b ∷ c ∷ rest) =
    if b == backslash then option_map (λ n. n + 2) (attribute_len true rest)
    else option_map (λ n. n + 1) (attribute_len (not (b == double_quote)) (c ∷ rest))
attribute_len false (b ∷ rest) =
    if b == star && first rest == closing then Some 2
    else option_map (λ n. n + 1) (attribute_len (b == double_quote) rest)

-- how many bytes of white space, or of one whole comment or attribute, a text begins with, if it begins with one:
-- the longest run of white space; `//` and the rest of its line; `/*` up to the next `*/`; `(*` up to the next `*)`
-- outside strings
unfoldable pub blank_len : List ℕ → Option ℕ
blank_len text =
    if is_white (first text) then Some (run White text)
    else (if first text == slash && second text == slash then Some (run Line text)
    else (if first text == slash && second text == star then option_map (λ n. n + 2) (comment_len (drop 2 text))
    else (if first text == opening && second text == star then option_map (λ n. n + 2) (attribute_len false (drop 2 text))
    else None)))

-- what is left of a text after the white space, comments and attributes that it begins with; so many bytes at its front
-- are of one that began before it
abbrev pub after_blanks : ℕ → List ℕ → List ℕ
after_blanks inside [] = []
after_blanks (suc inside) (b ∷ rest) = after_blanks inside rest
after_blanks zero (b ∷ rest) = unwrap_or (option_map (λ n. after_blanks (n - 1) rest) (blank_len (b ∷ rest))) (b ∷ rest)
