-- Each piece has a byte and lies in its text.
use Rattle.std.proofs.Common.{◌≡◌, ℕ, zero, suc, ◌+◌, ◌-◌, ◌<◌, ◌≤◌, Bool, true, false, ◌==◌, ◌&&◌, ◌||◌, nat_lt, List, [], ◌∷◌, length, take, drop, length-drop, Option, Some, None, option_map, unwrap_or, if◌then◌else◌, slice_index, bytes_eq, refl, sym, ap, ◌∙◌, arith}
use Rattle.std.specs.Prelude.{codes}
use Rattle.std.specs.Char.{is_ascii_digit, is_ascii_alphabetic}
use Rattle.std.specs.Option.{option_map_or}
use Rattle.std.proofs.lemmas.Bool.Decides.{nat_tests}
use Rattle.std.proofs.lemmas.List.Sums.{prefix_len-le-length}
use Rattle.verilog_lex.specs.declared.bytes.Base.{Base}
use Rattle.verilog_lex.specs.declared.bytes.Class.{Class}
use Rattle.verilog_lex.specs.declared.bytes.Class.TheVariants as class
use Rattle.verilog_lex.specs.declared.fault.Cause.{Cause}
use Rattle.verilog_lex.specs.declared.fault.Cause.TheVariants as cause
use Rattle.verilog_lex.specs.declared.piece.Piece.{Piece}
use Rattle.verilog_lex.specs.declared.piece.Piece.TheVariants.{Blank, Setting, Lexeme, Fault}
use Rattle.verilog_lex.specs.declared.token.TokenKind.{TokenKind}
use Rattle.verilog_lex.specs.declared.token.TokenKind.TheVariants as kind
use Rattle.verilog_lex.specs.Bytes.{is_in, run, first, second}
use Rattle.verilog_lex.specs.Blanks.{blank_len, after_blanks}
use Rattle.verilog_lex.specs.Numbers.{base_of, value_of, is_constant, digits_piece, constant_piece, number_piece}
use Rattle.verilog_lex.specs.Pieces.{IsWithin, is_mark, is_parted, word_piece, escaped_piece, setting_piece, is_cell_directive, directive_piece, token_piece}

both : (a b : Bool) → (a && b) ≡ true → (a ≡ true) × (b ≡ true)
both a b e = grind (arith, nat_tests)

run-positive : (class : Class) (text : List ℕ) → 0 < length text → is_in class (first text) ≡ true → 0 < run class text
run-positive class [] h e = absurd (omega arith)
run-positive class (b ∷ rest) h e = rw e (omega arith)

run-le : (class : Class) (text : List ℕ) → run class text ≤ length text
run-le class text = prefix_len-le-length (is_in class) text

run-drop-le : (class : Class) (n : ℕ) (text : List ℕ) → n ≤ length text → n + run class (drop n text) ≤ length text
run-drop-le class n text h =
    let le = run-le class (drop n text) in
    let size = length-drop n text in
    omega (arith, le, size)

inside_text : (text : List ℕ) (k : ℕ) → (slice_index text k ≡ 0 → ⊥) → k < length text
inside_text [] zero h = absurd (h refl)
inside_text [] (suc k) h = absurd (h refl)
inside_text (b ∷ rest) zero h = omega arith
inside_text (b ∷ rest) (suc k) h = let le = inside_text rest k h in omega (arith, le)

-- that a piece lies within so many bytes, as a record
pub record Lies (size : ℕ) (piece : Piece) : Type 0 where
  pub is : IsWithin size piece

blank : (size bytes : ℕ) → 0 < bytes → bytes ≤ size → Lies size (Blank bytes)
blank size bytes some fits = record { is = (some, fits) }

setting : (size : ℕ) (implicit : Bool) (bytes : ℕ) → 0 < bytes → bytes ≤ size → Lies size (Setting implicit bytes)
setting size implicit bytes some fits = record { is = (some, fits) }

lexeme : (size : ℕ) (kind : TokenKind) (start bytes : ℕ) → start < bytes → bytes ≤ size → Lies size (Lexeme kind start bytes)
lexeme size kind start bytes some fits = record { is = (some, fits) }

fault : (size : ℕ) (reason : Cause) (offset : ℕ) → offset < size → Lies size (Fault reason offset)
fault size reason offset fits = record { is = fits }

-- a piece chosen by a test lies where both do
chosen_piece : (size : ℕ) (b : Bool) (x y : Piece) → (b ≡ true → Lies size x) → (b ≡ false → Lies size y) → Lies size (if b then x else y)
chosen_piece size true x y f g = f refl
chosen_piece size false x y f g = g refl

after_blanks-le : (k : ℕ) (text : List ℕ) → length (after_blanks k text) ≤ length text
after_blanks-le zero [] = omega arith
after_blanks-le (suc k) [] = omega arith
after_blanks-le (suc k) (b ∷ rest) = let le = after_blanks-le k rest in omega (arith, le)
after_blanks-le zero (b ∷ rest) = go (blank_len (b ∷ rest)) (λ k. after_blanks-le k rest)
  where
    go : (o : Option ℕ) → ((k : ℕ) → length (after_blanks k rest) ≤ length rest) → length (unwrap_or (option_map (λ n. after_blanks (n - 1) rest) o) (b ∷ rest)) ≤ length (b ∷ rest)
    go None h = omega arith
    go (Some n) h = let le = h (n - 1) in omega (arith, le)

name_start : (b : ℕ) → (is_ascii_alphabetic b || b == 95) ≡ true → is_in class.Name b ≡ true
name_start b e = grind (arith, nat_tests)

digit_start : (b : ℕ) → is_ascii_digit b ≡ true → is_in class.Number b ≡ true
digit_start b e = grind (arith, nat_tests)

word_piece-within : (text : List ℕ) → 0 < length text → (is_ascii_alphabetic (first text) || first text == 95) ≡ true → Lies (length text) (word_piece text)
unfolding word_piece
word_piece-within text h e = lexeme _ _ _ _ (run-positive class.Name text h (name_start (first text) e)) (run-le class.Name text)

escaped_piece-within : (text : List ℕ) → 0 < length text → Lies (length text) (escaped_piece text)
unfolding escaped_piece
escaped_piece-within text h =
    chosen_piece (length text) _ _ _
    (λ e.
    let some = (both (nat_lt 0 (run class.Escaped (drop 1 text))) (is_parted (drop (1 + run class.Escaped (drop 1 text)) text)) e).0 in
    let le = run-drop-le class.Escaped 1 text (omega arith) in
    lexeme _ _ _ _ (grind (arith, nat_tests)) le)
    (λ _. fault _ _ _ h)

setting_piece-within : (text : List ℕ) (bytes : ℕ) → 0 < bytes → bytes ≤ length text → Lies (length text) (setting_piece text bytes)
unfolding setting_piece
setting_piece-within text bytes h fits =
    let rest : List ℕ = after_blanks 0 (drop bytes text) in
    let short = after_blanks-le 0 (drop bytes text) in
    let size = length-drop bytes text in
    let count = run-le class.Name rest in
    chosen_piece (length text) (bytes_eq (take (run class.Name rest) rest) (codes "wire")) _ _ (λ _. setting _ _ _ (omega (arith, short, size, count)) (omega (arith, short, size, count)))
    (λ _. chosen_piece (length text) (bytes_eq (take (run class.Name rest) rest) (codes "none")) _ _ (λ _. setting _ _ _ (omega (arith, short, size, count)) (omega (arith, short, size, count))) (λ _. fault _ _ _ (omega arith)))

directive_piece-within : (text : List ℕ) → 0 < length text → (first text == 96) ≡ true → Lies (length text) (directive_piece text)
unfolding directive_piece
directive_piece-within text h e =
    let fits = run-drop-le class.Name 1 text (omega arith) in
    let on : is_in class.Line (first text) ≡ true = grind (arith, nat_tests) in
    let name : List ℕ = take (1 + run class.Name (drop 1 text) - 1) (drop 1 text) in
    chosen_piece (length text) (bytes_eq name (codes "timescale")) _ _ (λ _. blank _ _ (run-positive class.Line text h on) (run-le class.Line text))
    (λ _. chosen_piece (length text) (is_cell_directive name) _ _ (λ _. blank _ _ (omega arith) fits)
    (λ _. chosen_piece (length text) (bytes_eq name (codes "resetall")) _ _ (λ _. setting _ _ _ (omega arith) fits)
    (λ _. chosen_piece (length text) (bytes_eq name (codes "default_nettype")) _ _ (λ _. setting_piece-within text (1 + run class.Name (drop 1 text)) (omega arith) fits)
    (λ _. fault _ _ _ h))))

digits_piece-within : (text : List ℕ) (size : ℕ) (base : Base) (start : ℕ) → 0 < start → start ≤ length text → Lies (length text) (digits_piece text size base start)
unfolding digits_piece
digits_piece-within text size base start h fits =
    let le = run-drop-le (class.Digits base) start text fits in
    chosen_piece (length text) (nat_lt (run class.Known (take (run (class.Digits base) (drop start text)) (drop start text))) (run (class.Digits base) (drop start text))) _ _
    (λ e. let less : run class.Known (take (run (class.Digits base) (drop start text)) (drop start text)) < run (class.Digits base) (drop start text) = grind (arith, nat_tests) in fault _ _ _ (omega (arith, less, le)))
    (λ _. chosen_piece (length text) (is_constant size base (take (run (class.Digits base) (drop start text)) (drop start text))) _ _ (λ _. lexeme _ _ 0 (start + run (class.Digits base) (drop start text)) (omega arith) le) (λ _. fault _ _ _ (omega arith)))

base_none : base_of 0 ≡ None
base_none = refl

constant_piece-within : (text : List ℕ) (size letter : ℕ) → 0 < length text → Lies (length text) (constant_piece text size letter)
unfolding constant_piece
constant_piece-within text size letter h = go (base_of (slice_index text letter)) refl
  where
    go : (o : Option Base) → base_of (slice_index text letter) ≡ o → Lies (length text) (option_map_or (λ base. digits_piece text size base (letter + 1 + run class.White (drop (letter + 1) text))) o (Fault cause.Number 0))
    go None e = fault _ _ _ h
    go (Some base) e =
        let inside = inside_text text letter (λ none. no (sym e ∙ ap base_of none)) in
        let le = run-drop-le class.White (letter + 1) text (omega arith) in
        digits_piece-within text size base (letter + 1 + run class.White (drop (letter + 1) text)) (omega arith) le
      where
        no : Some base ≡ base_of 0 → ⊥
        no e = absurd (cc)

number_piece-within : (text : List ℕ) → 0 < length text → is_ascii_digit (first text) ≡ true → Lies (length text) (number_piece text)
unfolding number_piece
number_piece-within text h e =
    let count = run class.Number text in
    let number = value_of 10 (take count text) in
    let quote = count + run class.White (drop count text) in
    chosen_piece (length text) (nat_lt 4294967295 number) _ _ (λ _. fault _ _ _ h)
    (λ _. chosen_piece (length text) (slice_index text quote == 39) _ _ (λ _. constant_piece-within text number (quote + 1) h)
    (λ _. lexeme _ _ _ _ (run-positive class.Number text h (digit_start (first text) e)) (run-le class.Number text)))

pub token_piece-within : (text : List ℕ) → 0 < length text → Lies (length text) (token_piece text)
unfolding token_piece
token_piece-within text h =
    let size = length text in
    let b = first text in
    let c = second text in
    chosen_piece size (is_ascii_alphabetic b || b == 95) _ _ (λ e. word_piece-within text h e)
    (λ _. chosen_piece size (is_ascii_digit b) _ _ (λ e. number_piece-within text h e)
    (λ _. chosen_piece size (b == 92) _ _ (λ _. escaped_piece-within text h)
    (λ _. chosen_piece size (b == 96) _ _ (λ e. directive_piece-within text h e)
    (λ _. chosen_piece size (b == 39) _ _ (λ _. fault _ _ _ h)
    (λ _. chosen_piece size (b == 47 && c == 42) _ _ (λ _. fault _ _ _ h)
    (λ _. chosen_piece size (b == 40 && c == 42) _ _ (λ _. fault _ _ _ h)
    (λ _. chosen_piece size (is_mark b) _ _ (λ _. lexeme size (kind.Mark b) 0 1 (omega arith) (omega arith))
    (λ _. fault _ _ _ h))))))))
