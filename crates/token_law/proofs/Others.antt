-- A token that is no number and no constant says nothing of digits.
use Rattle.std.proofs.Common.{◌≡◌, ℕ, ◌+◌, Bool, true, false, List, drop, take, refl, sym, ap, ◌∙◌, if◌then◌else◌}
use Rattle.std.specs.Prelude.{◌==◌, ◌&&◌, ◌||◌, ◌-◌, nat_lt, nat_le, codes, Option, Some, None, Result, position, bytes_eq}
use Rattle.std.specs.Option.{option_map_or}
use Rattle.std.specs.List.{prefix_len}
use Rattle.std.specs.Char.{is_ascii_alphanumeric}
use Rattle.facts.proofs.Tests.{no}
use Rattle.verilog_lex.specs.declared.fault.LexFault.{LexFault}
use Rattle.verilog_lex.specs.declared.token.Token.{Token}
use Rattle.verilog_lex.specs.declared.token.TokenKind.{TokenKind}
use Rattle.verilog_lex.specs.declared.token.TokenKind.TheVariants as kind
use Rattle.verilog_lex.specs.Blanks.{after_blanks}
use Rattle.verilog_lex.specs.Bytes.{underscore, dollar}
use Rattle.verilog_lex.specs.Words.{reserved_words, word_kind}
use Rattle.verilog_lex.specs.Pieces.{is_parted, is_cell_directive, first_piece, word_piece, escaped_piece, directive_piece, setting_piece}
use Rattle.verilog_lex.specs.Reads.{Reads, ends, passes, sets, takes, fails}
use Rattle.token_law.specs.Numbers.{Says}

-- what holds in both branches of a choice holds of what is chosen
pub chosen : {P G : Type 0} {b : Bool} {x y z : P} → (if b then x else y) ≡ z → (b ≡ true → x ≡ z → G) → (b ≡ false → y ≡ z → G) → G
chosen {b = true} h f g = f refl h
chosen {b = false} h f g = g refl h

-- the first token of what a text holds from a place on, if it is a number or a constant, says what its bytes say
abbrev pub First : (text : List ℕ) {implicit : Bool} {at : ℕ} {answer : Result (List Token) LexFault} → Reads text implicit at answer → Type 0
First text (ends implicit at over) = Unit {0}
First text (passes implicit at bytes answer stands rest) = Unit {0}
First text (sets implicit setting at bytes answer stands rest) = Unit {0}
First text (takes implicit at start bytes kind answer stands rest) = Says text (at + start) (at + bytes) kind
First text (fails implicit at offset cause stands) = Unit {0}

-- numbers and constants have a value
has_value : TokenKind → Bool
has_value kind.Name = false
has_value (kind.Keyword place) = false
has_value (kind.Number number) = true
has_value (kind.Constant size value) = true
has_value (kind.Mark byte) = false

silent : (text : List ℕ) (start end : ℕ) (k : TokenKind) → has_value k ≡ false → Says text start end k
unfolding has_value
silent text start end kind.Name e = tt
silent text start end (kind.Keyword place) e = tt
silent text start end (kind.Number number) e = no (sym e)
silent text start end (kind.Constant size value) e = no (sym e)
silent text start end (kind.Mark byte) e = tt

word_silent : (word : List ℕ) → has_value (word_kind word) ≡ false
unfolding has_value
word_silent word = go (position (bytes_eq word) reserved_words)
  where
    go : (o : Option ℕ) → has_value (option_map_or kind.Keyword o kind.Name) ≡ false
    go None = refl
    go (Some place) = refl

-- how many bytes of a name, and of an escaped name, a text begins with
abbrev pub name_len : List ℕ → ℕ
name_len text = prefix_len (λ b. is_ascii_alphanumeric b || b == underscore || b == dollar) text

abbrev pub escaped_len : List ℕ → ℕ
escaped_len text = prefix_len (λ b. nat_le 33 b && nat_le b 126) (drop 1 text)

-- the name of a directive, and what stands behind it
abbrev pub directive_name : List ℕ → List ℕ
directive_name text = take (1 + name_len (drop 1 text) - 1) (drop 1 text)

abbrev pub behind_name : List ℕ → List ℕ
behind_name text = after_blanks 0 (drop (1 + name_len (drop 1 text)) text)

abbrev pub setting_name : List ℕ → List ℕ
setting_name text = take (name_len (behind_name text)) (behind_name text)

pub word_says : (text : List ℕ) {implicit : Bool} {at : ℕ} {answer : Result (List Token) LexFault} (r : Reads text implicit at answer) → first_piece (drop at text) ≡ word_piece (drop at text) → First text r
unfolding word_piece has_value
word_says text (ends implicit at over) e = tt
word_says text (passes implicit at bytes answer stands rest) e = tt
word_says text (sets implicit setting at bytes answer stands rest) e = tt
word_says text (fails implicit at offset cause stands) e = tt
word_says text (takes implicit at start bytes kind.Name answer stands rest) e = tt
word_says text (takes implicit at start bytes (kind.Keyword place) answer stands rest) e = tt
word_says text (takes implicit at start bytes (kind.Mark byte) answer stands rest) e = tt
word_says text (takes implicit at start bytes (kind.Number number) answer stands rest) e =
    let h = rw e at stands.is in
    let word : List ℕ = take (name_len (drop at text)) (drop at text) in
    let same : word_kind word ≡ kind.Number number = cc in
    no (sym (word_silent word) ∙ ap has_value same)
word_says text (takes implicit at start bytes (kind.Constant size value) answer stands rest) e =
    let h = rw e at stands.is in
    let word : List ℕ = take (name_len (drop at text)) (drop at text) in
    let same : word_kind word ≡ kind.Constant size value = cc in
    no (sym (word_silent word) ∙ ap has_value same)

pub escaped_says : (text : List ℕ) {implicit : Bool} {at : ℕ} {answer : Result (List Token) LexFault} (r : Reads text implicit at answer) → first_piece (drop at text) ≡ escaped_piece (drop at text) → (nat_lt 0 (escaped_len (drop at text)) && is_parted (drop (1 + escaped_len (drop at text)) (drop at text))) ≡ true → First text r
unfolding escaped_piece
escaped_says text (ends implicit at over) e t = tt
escaped_says text (passes implicit at bytes answer stands rest) e t = tt
escaped_says text (sets implicit setting at bytes answer stands rest) e t = tt
escaped_says text (fails implicit at offset cause stands) e t = tt
escaped_says text (takes implicit at start bytes kind.Name answer stands rest) e t = tt
escaped_says text (takes implicit at start bytes (kind.Keyword place) answer stands rest) e t = tt
escaped_says text (takes implicit at start bytes (kind.Mark byte) answer stands rest) e t = tt
escaped_says text (takes implicit at start bytes (kind.Number number) answer stands rest) e t = let h = rw t at (rw e at stands.is) in absurd (cc)
escaped_says text (takes implicit at start bytes (kind.Constant size value) answer stands rest) e t = let h = rw t at (rw e at stands.is) in absurd (cc)

pub bare_says : (text : List ℕ) {implicit : Bool} {at : ℕ} {answer : Result (List Token) LexFault} (r : Reads text implicit at answer) → first_piece (drop at text) ≡ escaped_piece (drop at text) → (nat_lt 0 (escaped_len (drop at text)) && is_parted (drop (1 + escaped_len (drop at text)) (drop at text))) ≡ false → First text r
unfolding escaped_piece
bare_says text (ends implicit at over) e t = tt
bare_says text (passes implicit at bytes answer stands rest) e t = tt
bare_says text (sets implicit setting at bytes answer stands rest) e t = tt
bare_says text (fails implicit at offset cause stands) e t = tt
bare_says text (takes implicit at start bytes kind.Name answer stands rest) e t = tt
bare_says text (takes implicit at start bytes (kind.Keyword place) answer stands rest) e t = tt
bare_says text (takes implicit at start bytes (kind.Mark byte) answer stands rest) e t = tt
bare_says text (takes implicit at start bytes (kind.Number number) answer stands rest) e t = let h = rw t at (rw e at stands.is) in absurd (cc)
bare_says text (takes implicit at start bytes (kind.Constant size value) answer stands rest) e t = let h = rw t at (rw e at stands.is) in absurd (cc)

pub timescale_says : (text : List ℕ) {implicit : Bool} {at : ℕ} {answer : Result (List Token) LexFault} (r : Reads text implicit at answer) → first_piece (drop at text) ≡ directive_piece (drop at text) → bytes_eq (directive_name (drop at text)) (codes "timescale") ≡ true → First text r
unfolding directive_piece
timescale_says text (ends implicit at over) e t0 = tt
timescale_says text (passes implicit at bytes answer stands rest) e t0 = tt
timescale_says text (sets implicit setting at bytes answer stands rest) e t0 = tt
timescale_says text (fails implicit at offset cause stands) e t0 = tt
timescale_says text (takes implicit at start bytes kind.Name answer stands rest) e t0 = tt
timescale_says text (takes implicit at start bytes (kind.Keyword place) answer stands rest) e t0 = tt
timescale_says text (takes implicit at start bytes (kind.Mark byte) answer stands rest) e t0 = tt
timescale_says text (takes implicit at start bytes (kind.Number number) answer stands rest) e t0 = let h = rw t0 at (rw e at stands.is) in absurd (cc)
timescale_says text (takes implicit at start bytes (kind.Constant size value) answer stands rest) e t0 = let h = rw t0 at (rw e at stands.is) in absurd (cc)

pub cells_say : (text : List ℕ) {implicit : Bool} {at : ℕ} {answer : Result (List Token) LexFault} (r : Reads text implicit at answer) → first_piece (drop at text) ≡ directive_piece (drop at text) → bytes_eq (directive_name (drop at text)) (codes "timescale") ≡ false → is_cell_directive (directive_name (drop at text)) ≡ true → First text r
unfolding directive_piece
cells_say text (ends implicit at over) e t0 t1 = tt
cells_say text (passes implicit at bytes answer stands rest) e t0 t1 = tt
cells_say text (sets implicit setting at bytes answer stands rest) e t0 t1 = tt
cells_say text (fails implicit at offset cause stands) e t0 t1 = tt
cells_say text (takes implicit at start bytes kind.Name answer stands rest) e t0 t1 = tt
cells_say text (takes implicit at start bytes (kind.Keyword place) answer stands rest) e t0 t1 = tt
cells_say text (takes implicit at start bytes (kind.Mark byte) answer stands rest) e t0 t1 = tt
cells_say text (takes implicit at start bytes (kind.Number number) answer stands rest) e t0 t1 = let h = rw t1 at (rw t0 at (rw e at stands.is)) in absurd (cc)
cells_say text (takes implicit at start bytes (kind.Constant size value) answer stands rest) e t0 t1 = let h = rw t1 at (rw t0 at (rw e at stands.is)) in absurd (cc)

pub resetall_says : (text : List ℕ) {implicit : Bool} {at : ℕ} {answer : Result (List Token) LexFault} (r : Reads text implicit at answer) → first_piece (drop at text) ≡ directive_piece (drop at text) → bytes_eq (directive_name (drop at text)) (codes "timescale") ≡ false → is_cell_directive (directive_name (drop at text)) ≡ false → bytes_eq (directive_name (drop at text)) (codes "resetall") ≡ true → First text r
unfolding directive_piece
resetall_says text (ends implicit at over) e t0 t1 t2 = tt
resetall_says text (passes implicit at bytes answer stands rest) e t0 t1 t2 = tt
resetall_says text (sets implicit setting at bytes answer stands rest) e t0 t1 t2 = tt
resetall_says text (fails implicit at offset cause stands) e t0 t1 t2 = tt
resetall_says text (takes implicit at start bytes kind.Name answer stands rest) e t0 t1 t2 = tt
resetall_says text (takes implicit at start bytes (kind.Keyword place) answer stands rest) e t0 t1 t2 = tt
resetall_says text (takes implicit at start bytes (kind.Mark byte) answer stands rest) e t0 t1 t2 = tt
resetall_says text (takes implicit at start bytes (kind.Number number) answer stands rest) e t0 t1 t2 = let h = rw t2 at (rw t1 at (rw t0 at (rw e at stands.is))) in absurd (cc)
resetall_says text (takes implicit at start bytes (kind.Constant size value) answer stands rest) e t0 t1 t2 = let h = rw t2 at (rw t1 at (rw t0 at (rw e at stands.is))) in absurd (cc)

pub unknown_says : (text : List ℕ) {implicit : Bool} {at : ℕ} {answer : Result (List Token) LexFault} (r : Reads text implicit at answer) → first_piece (drop at text) ≡ directive_piece (drop at text) → bytes_eq (directive_name (drop at text)) (codes "timescale") ≡ false → is_cell_directive (directive_name (drop at text)) ≡ false → bytes_eq (directive_name (drop at text)) (codes "resetall") ≡ false → bytes_eq (directive_name (drop at text)) (codes "default_nettype") ≡ false → First text r
unfolding directive_piece
unknown_says text (ends implicit at over) e t0 t1 t2 t3 = tt
unknown_says text (passes implicit at bytes answer stands rest) e t0 t1 t2 t3 = tt
unknown_says text (sets implicit setting at bytes answer stands rest) e t0 t1 t2 t3 = tt
unknown_says text (fails implicit at offset cause stands) e t0 t1 t2 t3 = tt
unknown_says text (takes implicit at start bytes kind.Name answer stands rest) e t0 t1 t2 t3 = tt
unknown_says text (takes implicit at start bytes (kind.Keyword place) answer stands rest) e t0 t1 t2 t3 = tt
unknown_says text (takes implicit at start bytes (kind.Mark byte) answer stands rest) e t0 t1 t2 t3 = tt
unknown_says text (takes implicit at start bytes (kind.Number number) answer stands rest) e t0 t1 t2 t3 = let h = rw t3 at (rw t2 at (rw t1 at (rw t0 at (rw e at stands.is)))) in absurd (cc)
unknown_says text (takes implicit at start bytes (kind.Constant size value) answer stands rest) e t0 t1 t2 t3 = let h = rw t3 at (rw t2 at (rw t1 at (rw t0 at (rw e at stands.is)))) in absurd (cc)

pub wire_says : (text : List ℕ) {implicit : Bool} {at : ℕ} {answer : Result (List Token) LexFault} (r : Reads text implicit at answer) → first_piece (drop at text) ≡ directive_piece (drop at text) → bytes_eq (directive_name (drop at text)) (codes "timescale") ≡ false → is_cell_directive (directive_name (drop at text)) ≡ false → bytes_eq (directive_name (drop at text)) (codes "resetall") ≡ false → bytes_eq (directive_name (drop at text)) (codes "default_nettype") ≡ true → bytes_eq (setting_name (drop at text)) (codes "wire") ≡ true → First text r
unfolding directive_piece setting_piece
wire_says text (ends implicit at over) e t0 t1 t2 t3 s0 = tt
wire_says text (passes implicit at bytes answer stands rest) e t0 t1 t2 t3 s0 = tt
wire_says text (sets implicit setting at bytes answer stands rest) e t0 t1 t2 t3 s0 = tt
wire_says text (fails implicit at offset cause stands) e t0 t1 t2 t3 s0 = tt
wire_says text (takes implicit at start bytes kind.Name answer stands rest) e t0 t1 t2 t3 s0 = tt
wire_says text (takes implicit at start bytes (kind.Keyword place) answer stands rest) e t0 t1 t2 t3 s0 = tt
wire_says text (takes implicit at start bytes (kind.Mark byte) answer stands rest) e t0 t1 t2 t3 s0 = tt
wire_says text (takes implicit at start bytes (kind.Number number) answer stands rest) e t0 t1 t2 t3 s0 = let h = rw s0 at (rw t3 at (rw t2 at (rw t1 at (rw t0 at (rw e at stands.is))))) in absurd (cc)
wire_says text (takes implicit at start bytes (kind.Constant size value) answer stands rest) e t0 t1 t2 t3 s0 = let h = rw s0 at (rw t3 at (rw t2 at (rw t1 at (rw t0 at (rw e at stands.is))))) in absurd (cc)

pub none_says : (text : List ℕ) {implicit : Bool} {at : ℕ} {answer : Result (List Token) LexFault} (r : Reads text implicit at answer) → first_piece (drop at text) ≡ directive_piece (drop at text) → bytes_eq (directive_name (drop at text)) (codes "timescale") ≡ false → is_cell_directive (directive_name (drop at text)) ≡ false → bytes_eq (directive_name (drop at text)) (codes "resetall") ≡ false → bytes_eq (directive_name (drop at text)) (codes "default_nettype") ≡ true → bytes_eq (setting_name (drop at text)) (codes "wire") ≡ false → bytes_eq (setting_name (drop at text)) (codes "none") ≡ true → First text r
unfolding directive_piece setting_piece
none_says text (ends implicit at over) e t0 t1 t2 t3 s0 s1 = tt
none_says text (passes implicit at bytes answer stands rest) e t0 t1 t2 t3 s0 s1 = tt
none_says text (sets implicit setting at bytes answer stands rest) e t0 t1 t2 t3 s0 s1 = tt
none_says text (fails implicit at offset cause stands) e t0 t1 t2 t3 s0 s1 = tt
none_says text (takes implicit at start bytes kind.Name answer stands rest) e t0 t1 t2 t3 s0 s1 = tt
none_says text (takes implicit at start bytes (kind.Keyword place) answer stands rest) e t0 t1 t2 t3 s0 s1 = tt
none_says text (takes implicit at start bytes (kind.Mark byte) answer stands rest) e t0 t1 t2 t3 s0 s1 = tt
none_says text (takes implicit at start bytes (kind.Number number) answer stands rest) e t0 t1 t2 t3 s0 s1 = let h = rw s1 at (rw s0 at (rw t3 at (rw t2 at (rw t1 at (rw t0 at (rw e at stands.is)))))) in absurd (cc)
none_says text (takes implicit at start bytes (kind.Constant size value) answer stands rest) e t0 t1 t2 t3 s0 s1 = let h = rw s1 at (rw s0 at (rw t3 at (rw t2 at (rw t1 at (rw t0 at (rw e at stands.is)))))) in absurd (cc)

pub unset_says : (text : List ℕ) {implicit : Bool} {at : ℕ} {answer : Result (List Token) LexFault} (r : Reads text implicit at answer) → first_piece (drop at text) ≡ directive_piece (drop at text) → bytes_eq (directive_name (drop at text)) (codes "timescale") ≡ false → is_cell_directive (directive_name (drop at text)) ≡ false → bytes_eq (directive_name (drop at text)) (codes "resetall") ≡ false → bytes_eq (directive_name (drop at text)) (codes "default_nettype") ≡ true → bytes_eq (setting_name (drop at text)) (codes "wire") ≡ false → bytes_eq (setting_name (drop at text)) (codes "none") ≡ false → First text r
unfolding directive_piece setting_piece
unset_says text (ends implicit at over) e t0 t1 t2 t3 s0 s1 = tt
unset_says text (passes implicit at bytes answer stands rest) e t0 t1 t2 t3 s0 s1 = tt
unset_says text (sets implicit setting at bytes answer stands rest) e t0 t1 t2 t3 s0 s1 = tt
unset_says text (fails implicit at offset cause stands) e t0 t1 t2 t3 s0 s1 = tt
unset_says text (takes implicit at start bytes kind.Name answer stands rest) e t0 t1 t2 t3 s0 s1 = tt
unset_says text (takes implicit at start bytes (kind.Keyword place) answer stands rest) e t0 t1 t2 t3 s0 s1 = tt
unset_says text (takes implicit at start bytes (kind.Mark byte) answer stands rest) e t0 t1 t2 t3 s0 s1 = tt
unset_says text (takes implicit at start bytes (kind.Number number) answer stands rest) e t0 t1 t2 t3 s0 s1 = let h = rw s1 at (rw s0 at (rw t3 at (rw t2 at (rw t1 at (rw t0 at (rw e at stands.is)))))) in absurd (cc)
unset_says text (takes implicit at start bytes (kind.Constant size value) answer stands rest) e t0 t1 t2 t3 s0 s1 = let h = rw s1 at (rw s0 at (rw t3 at (rw t2 at (rw t1 at (rw t0 at (rw e at stands.is)))))) in absurd (cc)
