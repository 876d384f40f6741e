-- The words of a text that is made of names, marks and white space.
use Rattle.std.proofs.Common.{◌≡◌, ◌+◌, ◌-◌, ◌<◌, ◌≤◌, ◌==◌, ◌&&◌, ◌||◌, ℕ, zero, suc, Bool, true, false, cond, List, [], ◌∷◌, ◌++◌, Result, Ok, length, take, drop, refl, sym, ap, ◌∙◌, subst, append_assoc, arith}
use Rattle.std.specs.Prelude.{if◌then◌else◌}
use Rattle.std.specs.List.{prefix_len, slice_range}
use Rattle.std.specs.Char.{is_ascii_alphabetic, is_ascii_alphanumeric}
use Rattle.std.proofs.lemmas.List.{length-append}
use Rattle.std.proofs.Math.Seq.{drop-append_seam, take-append_seam}
use Rattle.verilog_lex.specs.Blanks.{blank_len}
use Rattle.verilog_lex.specs.Bytes.{dollar, first, is_white, opening, slash, star, underscore}
use Rattle.verilog_lex.specs.Pieces.{first_piece, token_piece, word_piece}
use Rattle.verilog_lex.specs.Reads.{Reads, passes, takes, ends}
use Rattle.verilog_lex.specs.Words.{word_kind}
use Rattle.verilog_lex.specs.declared.token.Token.{Token}
use Rattle.verilog_lex.specs.declared.token.TokenKind.{TokenKind}
use Rattle.verilog_lex.specs.declared.token.TokenKind.TheVariants as kind
use Rattle.token_words.specs.Word.{Word, mark}
use Rattle.token_words.specs.Words.{bytes_of, word_of, words_of}

-- wherever these bytes stand at the end of a text, they are these words
abbrev pub Say : List ℕ → List Word → Type 0
Say rest words =
    (text before : List ℕ) → text ≡ before ++ rest → (tokens : List Token) × (Reads text true (length before) (Ok tokens)) × (words_of text tokens ≡ words)

-- nothing says nothing
pub say_end : Say [] []
say_end text before e = (
  [],
  ends true (length before) (let size : length text ≡ length (before ++ []) = ap length e in let sizes = length-append before [] in omega arith),
  refl,
)

-- a place behind some bytes is within the text, and what stands there is what the rest begins with
inside_is : (text before rest : List ℕ) → text ≡ before ++ rest → 0 < length rest → length before < length text
inside_is text before rest e some = (let size : length text ≡ length (before ++ rest) = ap length e in let sizes = length-append before rest in omega arith)

piece_is : (text before rest : List ℕ) → text ≡ before ++ rest → first_piece (drop (length before) text) ≡ first_piece rest
piece_is text before rest e = ap (λ t. first_piece (drop (length before) t)) e ∙ ap first_piece (drop-append_seam before rest)

-- White space.

first_white : (x : ℕ) (more : List ℕ) → is_white x ≡ true → is_white (first more) ≡ false → first_piece (x ∷ more) ≡ first_piece (32 ∷ [])
unfolding first_piece blank_len
first_white x more white other = rw (white, none more other) refl
  where
    none : (ys : List ℕ) → is_white (first ys) ≡ false → prefix_len is_white ys ≡ 0
    none [] e = refl
    none (y ∷ ys) e = ap (λ b. cond b (1 + prefix_len is_white ys) 0) e

pub say_white : (x : ℕ) (rest : List ℕ) (words : List Word) → is_white x ≡ true → is_white (first rest) ≡ false → Say rest words → Say (x ∷ rest) words
unfolding first_piece blank_len
say_white x rest words white other say text before e =
    let next = say text (before ++ x ∷ []) (e ∙ sym (append_assoc before (x ∷ []) rest)) in
    let place : length (before ++ x ∷ []) ≡ length before + 1 = length-append before (x ∷ []) in (
      next.0,
      passes true (length before) 1 (Ok next.0)
          (record { inside = inside_is text before (x ∷ rest) e (omega arith); is = piece_is text before (x ∷ rest) e ∙ first_white x rest white other })
          (subst (λ at. Reads text true at (Ok next.0)) place next.1),
      next.2,
    )

-- Tokens.

-- the bytes of a token
cut_is : (text before bytes rest : List ℕ) → text ≡ before ++ (bytes ++ rest) → slice_range text (length before + 0) (length before + length bytes) ≡ bytes
cut_is text before bytes rest e =
    let start : length before + 0 ≡ length before = omega arith in
    let size : length before + length bytes - length before ≡ length bytes = omega arith in
    ap (λ at. take (length before + length bytes - at) (drop at text)) start
    ∙ ap (λ n. take n (drop (length before) text)) size
    ∙ ap (take (length bytes)) (ap (drop (length before)) e ∙ drop-append_seam before (bytes ++ rest))
    ∙ take-append_seam bytes rest

-- A mark.

module _ (b : ℕ) (rest : List ℕ) (words : List Word) (say : Say rest words) where
  marked : (text before : List ℕ) → text ≡ before ++ b ∷ rest → (tokens : List Token) × (Reads text true (length before + 1) (Ok tokens)) × (words_of text tokens ≡ words)
  marked text before e =
      let next = say text (before ++ b ∷ []) (e ∙ sym (append_assoc before (b ∷ []) rest)) in
      let place : length (before ++ b ∷ []) ≡ length before + 1 = length-append before (b ∷ []) in
      (next.0, subst (λ at. Reads text true at (Ok next.0)) place next.1, next.2)

pub say_close : (rest : List ℕ) (words : List Word) → Say rest words → Say (41 ∷ rest) (mark 41 ∷ words)
unfolding first_piece blank_len token_piece
say_close rest words say text before e =
    let next = marked 41 rest words say text before e in (
      _,
      takes true (length before) 0 1 (kind.Mark 41) (Ok next.0) (record { inside = inside_is text before (41 ∷ rest) e (omega arith); is = piece_is text before (41 ∷ rest) e }) next.1,
      ap (λ ws. mark 41 ∷ ws) next.2,
    )

pub say_comma : (rest : List ℕ) (words : List Word) → Say rest words → Say (44 ∷ rest) (mark 44 ∷ words)
unfolding first_piece blank_len token_piece
say_comma rest words say text before e =
    let next = marked 44 rest words say text before e in (
      _,
      takes true (length before) 0 1 (kind.Mark 44) (Ok next.0) (record { inside = inside_is text before (44 ∷ rest) e (omega arith); is = piece_is text before (44 ∷ rest) e }) next.1,
      ap (λ ws. mark 44 ∷ ws) next.2,
    )

pub say_semicolon : (rest : List ℕ) (words : List Word) → Say rest words → Say (59 ∷ rest) (mark 59 ∷ words)
unfolding first_piece blank_len token_piece
say_semicolon rest words say text before e =
    let next = marked 59 rest words say text before e in (
      _,
      takes true (length before) 0 1 (kind.Mark 59) (Ok next.0) (record { inside = inside_is text before (59 ∷ rest) e (omega arith); is = piece_is text before (59 ∷ rest) e }) next.1,
      ap (λ ws. mark 59 ∷ ws) next.2,
    )

first_open : (rest : List ℕ) → (first rest == star) ≡ false → first_piece (40 ∷ rest) ≡ first_piece (40 ∷ [])
unfolding first_piece blank_len token_piece
first_open [] none = refl
first_open (x ∷ rest) none = rw none refl

pub say_open : (rest : List ℕ) (words : List Word) → (first rest == star) ≡ false → Say rest words → Say (40 ∷ rest) (mark 40 ∷ words)
unfolding first_piece blank_len token_piece
say_open rest words none say text before e =
    let next = marked 40 rest words say text before e in (
      _,
      takes true (length before) 0 1 (kind.Mark 40) (Ok next.0) (record { inside = inside_is text before (40 ∷ rest) e (omega arith); is = piece_is text before (40 ∷ rest) e ∙ first_open rest none }) next.1,
      ap (λ ws. mark 40 ∷ ws) next.2,
    )

-- A name or a reserved word.

-- a letter, a digit, `_` or `$`
abbrev pub is_name : ℕ → Bool
is_name b = is_ascii_alphanumeric b || b == underscore || b == dollar

-- all bytes are so
abbrev pub AreOfName : List ℕ → Type 0
AreOfName [] = Unit {0}
AreOfName (b ∷ bytes) = (is_name b ≡ true) × AreOfName bytes

one_more : (n : ℕ) → 1 + n ≡ suc n
one_more n = omega arith

run_is : (bytes rest : List ℕ) → AreOfName bytes → is_name (first rest) ≡ false → prefix_len is_name (bytes ++ rest) ≡ length bytes
run_is [] [] all other = refl
run_is [] (r ∷ rest) all other = ap (λ b. cond b (1 + prefix_len is_name rest) 0) other
run_is (b ∷ bytes) rest all other =
    ap (λ t. cond t (1 + prefix_len is_name (bytes ++ rest)) 0) all.0 ∙ ap (λ n. 1 + n) (run_is bytes rest all.1 other) ∙ one_more (length bytes)

-- a name or a reserved word begins with this letter
abbrev pub IsLetter : ℕ → Type 0
IsLetter b = (is_white b ≡ false) × ((b == slash) ≡ false) × ((b == opening) ≡ false) × (is_ascii_alphabetic b ≡ true)

first_word : (b : ℕ) (tail : List ℕ) → IsLetter b → first_piece (b ∷ tail) ≡ word_piece (b ∷ tail)
unfolding first_piece blank_len token_piece
first_word b tail letter = rw (letter.0, letter.1, letter.2, letter.3) refl

-- what these bytes are as a word
abbrev pub word_from : List ℕ → Word
word_from bytes = record { kind = word_kind bytes; name = bytes_of (word_kind bytes) bytes }

pub say_word : (b : ℕ) (bytes rest : List ℕ) (words : List Word) → IsLetter b → AreOfName (b ∷ bytes) → is_name (first rest) ≡ false → Say rest words → Say ((b ∷ bytes) ++ rest) (word_from (b ∷ bytes) ∷ words)
unfolding word_piece
say_word b bytes rest words letter all other say text before e =
    let whole = (b ∷ bytes) ++ rest in
    let count : ℕ = prefix_len is_name whole in
    let count-is : count ≡ length (b ∷ bytes) = run_is (b ∷ bytes) rest all other in
    let front : take count whole ≡ b ∷ bytes = ap (λ n. take n whole) count-is ∙ take-append_seam (b ∷ bytes) rest in
    let next = say text (before ++ b ∷ bytes) (e ∙ sym (append_assoc before (b ∷ bytes) rest)) in
    let place : length (before ++ b ∷ bytes) ≡ length before + count = length-append before (b ∷ bytes) ∙ ap (λ n. length before + n) (sym count-is) in
    let cut : slice_range text (length before + 0) (length before + count) ≡ b ∷ bytes = ap (λ n. slice_range text (length before + 0) (length before + n)) count-is ∙ cut_is text before (b ∷ bytes) rest e in (
      _,
      takes true (length before) 0 count (word_kind (take count whole)) (Ok next.0)
          (record { inside = inside_is text before whole e (omega arith); is = piece_is text before whole e ∙ first_word b (bytes ++ rest) letter })
          (subst (λ at. Reads text true at (Ok next.0)) place next.1),
      (λ i. record { kind = word_kind (front i); name = bytes_of (word_kind (front i)) (cut i) } ∷ next.2 i),
    )
