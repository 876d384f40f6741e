-- Whatever the first token of a text is, it says what its bytes say, and so do all tokens.
use Rattle.std.proofs.Common.{◌≡◌, ℕ, zero, suc, ◌+◌, Bool, true, false, List, ◌∷◌, drop, refl, subst}
use Rattle.std.specs.Prelude.{◌==◌, ◌&&◌, ◌||◌, nat_lt, codes, Option, Some, None, Result, Ok, Err, bytes_eq, slice_get}
use Rattle.std.specs.Char.{is_ascii_digit, is_ascii_alphabetic}
use Rattle.std.proofs.lemmas.Option.{none-some, same_Some}
use Rattle.verilog_lex.specs.declared.fault.LexFault.{LexFault}
use Rattle.verilog_lex.specs.declared.token.Token.{Token}
use Rattle.verilog_lex.specs.declared.token.TokenKind.TheVariants as kind
use Rattle.verilog_lex.specs.Blanks.{blank_len}
use Rattle.verilog_lex.specs.Bytes.{first, second, underscore, backslash, backquote, apostrophe, slash, star, opening}
use Rattle.verilog_lex.specs.Numbers.{number_piece}
use Rattle.verilog_lex.specs.Pieces.{is_parted, is_mark, is_cell_directive, first_piece, token_piece, word_piece, escaped_piece, directive_piece}
use Rattle.verilog_lex.specs.Reads.{with_token, Reads, ends, passes, sets, takes, fails}
use Rattle.token_law.specs.Numbers.{Says, TokensSayDigits}
use Rattle.token_law.proofs.Others.{First, escaped_len, directive_name, setting_name, word_says, escaped_says, bare_says, timescale_says, cells_say, resetall_says, unknown_says, wire_says, none_says, unset_says}
use Rattle.token_law.proofs.Constants.{numbers_say}

passed_say : (text : List ℕ) {implicit : Bool} {at : ℕ} {answer : Result (List Token) LexFault} (r : Reads text implicit at answer) → (n : ℕ) → blank_len (drop at text) ≡ Some n → First text r
unfolding first_piece
passed_say text (ends implicit at over) n some = tt
passed_say text (passes implicit at bytes answer stands rest) n some = tt
passed_say text (sets implicit setting at bytes answer stands rest) n some = tt
passed_say text (fails implicit at offset cause stands) n some = tt
passed_say text (takes implicit at start bytes kind.Name answer stands rest) n some = tt
passed_say text (takes implicit at start bytes (kind.Keyword place) answer stands rest) n some = tt
passed_say text (takes implicit at start bytes (kind.Mark byte) answer stands rest) n some = tt
passed_say text (takes implicit at start bytes (kind.Number number) answer stands rest) n some = let h = rw some at stands.is in absurd (cc)
passed_say text (takes implicit at start bytes (kind.Constant size value) answer stands rest) n some = let h = rw some at stands.is in absurd (cc)

quote_says : (text : List ℕ) {implicit : Bool} {at : ℕ} {answer : Result (List Token) LexFault} (r : Reads text implicit at answer) → blank_len (drop at text) ≡ None → (is_ascii_alphabetic (first (drop at text)) || first (drop at text) == underscore) ≡ false → is_ascii_digit (first (drop at text)) ≡ false → (first (drop at text) == backslash) ≡ false → (first (drop at text) == backquote) ≡ false → (first (drop at text) == apostrophe) ≡ true → First text r
unfolding first_piece token_piece
quote_says text (ends implicit at over) none a d s q r0 = tt
quote_says text (passes implicit at bytes answer stands rest) none a d s q r0 = tt
quote_says text (sets implicit setting at bytes answer stands rest) none a d s q r0 = tt
quote_says text (fails implicit at offset cause stands) none a d s q r0 = tt
quote_says text (takes implicit at start bytes kind.Name answer stands rest) none a d s q r0 = tt
quote_says text (takes implicit at start bytes (kind.Keyword place) answer stands rest) none a d s q r0 = tt
quote_says text (takes implicit at start bytes (kind.Mark byte) answer stands rest) none a d s q r0 = tt
quote_says text (takes implicit at start bytes (kind.Number number) answer stands rest) none a d s q r0 = let h = rw r0 at (rw q at (rw s at (rw d at (rw a at (rw none at stands.is))))) in absurd (cc)
quote_says text (takes implicit at start bytes (kind.Constant size value) answer stands rest) none a d s q r0 = let h = rw r0 at (rw q at (rw s at (rw d at (rw a at (rw none at stands.is))))) in absurd (cc)

comment_says : (text : List ℕ) {implicit : Bool} {at : ℕ} {answer : Result (List Token) LexFault} (r : Reads text implicit at answer) → blank_len (drop at text) ≡ None → (is_ascii_alphabetic (first (drop at text)) || first (drop at text) == underscore) ≡ false → is_ascii_digit (first (drop at text)) ≡ false → (first (drop at text) == backslash) ≡ false → (first (drop at text) == backquote) ≡ false → (first (drop at text) == apostrophe) ≡ false → (first (drop at text) == slash && second (drop at text) == star) ≡ true → First text r
unfolding first_piece token_piece
comment_says text (ends implicit at over) none a d s q r0 r1 = tt
comment_says text (passes implicit at bytes answer stands rest) none a d s q r0 r1 = tt
comment_says text (sets implicit setting at bytes answer stands rest) none a d s q r0 r1 = tt
comment_says text (fails implicit at offset cause stands) none a d s q r0 r1 = tt
comment_says text (takes implicit at start bytes kind.Name answer stands rest) none a d s q r0 r1 = tt
comment_says text (takes implicit at start bytes (kind.Keyword place) answer stands rest) none a d s q r0 r1 = tt
comment_says text (takes implicit at start bytes (kind.Mark byte) answer stands rest) none a d s q r0 r1 = tt
comment_says text (takes implicit at start bytes (kind.Number number) answer stands rest) none a d s q r0 r1 = let h = rw r1 at (rw r0 at (rw q at (rw s at (rw d at (rw a at (rw none at stands.is)))))) in absurd (cc)
comment_says text (takes implicit at start bytes (kind.Constant size value) answer stands rest) none a d s q r0 r1 = let h = rw r1 at (rw r0 at (rw q at (rw s at (rw d at (rw a at (rw none at stands.is)))))) in absurd (cc)

attribute_says : (text : List ℕ) {implicit : Bool} {at : ℕ} {answer : Result (List Token) LexFault} (r : Reads text implicit at answer) → blank_len (drop at text) ≡ None → (is_ascii_alphabetic (first (drop at text)) || first (drop at text) == underscore) ≡ false → is_ascii_digit (first (drop at text)) ≡ false → (first (drop at text) == backslash) ≡ false → (first (drop at text) == backquote) ≡ false → (first (drop at text) == apostrophe) ≡ false → (first (drop at text) == slash && second (drop at text) == star) ≡ false → (first (drop at text) == opening && second (drop at text) == star) ≡ true → First text r
unfolding first_piece token_piece
attribute_says text (ends implicit at over) none a d s q r0 r1 r2 = tt
attribute_says text (passes implicit at bytes answer stands rest) none a d s q r0 r1 r2 = tt
attribute_says text (sets implicit setting at bytes answer stands rest) none a d s q r0 r1 r2 = tt
attribute_says text (fails implicit at offset cause stands) none a d s q r0 r1 r2 = tt
attribute_says text (takes implicit at start bytes kind.Name answer stands rest) none a d s q r0 r1 r2 = tt
attribute_says text (takes implicit at start bytes (kind.Keyword place) answer stands rest) none a d s q r0 r1 r2 = tt
attribute_says text (takes implicit at start bytes (kind.Mark byte) answer stands rest) none a d s q r0 r1 r2 = tt
attribute_says text (takes implicit at start bytes (kind.Number number) answer stands rest) none a d s q r0 r1 r2 = let h = rw r2 at (rw r1 at (rw r0 at (rw q at (rw s at (rw d at (rw a at (rw none at stands.is))))))) in absurd (cc)
attribute_says text (takes implicit at start bytes (kind.Constant size value) answer stands rest) none a d s q r0 r1 r2 = let h = rw r2 at (rw r1 at (rw r0 at (rw q at (rw s at (rw d at (rw a at (rw none at stands.is))))))) in absurd (cc)

mark_says : (text : List ℕ) {implicit : Bool} {at : ℕ} {answer : Result (List Token) LexFault} (r : Reads text implicit at answer) → blank_len (drop at text) ≡ None → (is_ascii_alphabetic (first (drop at text)) || first (drop at text) == underscore) ≡ false → is_ascii_digit (first (drop at text)) ≡ false → (first (drop at text) == backslash) ≡ false → (first (drop at text) == backquote) ≡ false → (first (drop at text) == apostrophe) ≡ false → (first (drop at text) == slash && second (drop at text) == star) ≡ false → (first (drop at text) == opening && second (drop at text) == star) ≡ false → is_mark (first (drop at text)) ≡ true → First text r
unfolding first_piece token_piece
mark_says text (ends implicit at over) none a d s q r0 r1 r2 r3 = tt
mark_says text (passes implicit at bytes answer stands rest) none a d s q r0 r1 r2 r3 = tt
mark_says text (sets implicit setting at bytes answer stands rest) none a d s q r0 r1 r2 r3 = tt
mark_says text (fails implicit at offset cause stands) none a d s q r0 r1 r2 r3 = tt
mark_says text (takes implicit at start bytes kind.Name answer stands rest) none a d s q r0 r1 r2 r3 = tt
mark_says text (takes implicit at start bytes (kind.Keyword place) answer stands rest) none a d s q r0 r1 r2 r3 = tt
mark_says text (takes implicit at start bytes (kind.Mark byte) answer stands rest) none a d s q r0 r1 r2 r3 = tt
mark_says text (takes implicit at start bytes (kind.Number number) answer stands rest) none a d s q r0 r1 r2 r3 = let h = rw r3 at (rw r2 at (rw r1 at (rw r0 at (rw q at (rw s at (rw d at (rw a at (rw none at stands.is)))))))) in absurd (cc)
mark_says text (takes implicit at start bytes (kind.Constant size value) answer stands rest) none a d s q r0 r1 r2 r3 = let h = rw r3 at (rw r2 at (rw r1 at (rw r0 at (rw q at (rw s at (rw d at (rw a at (rw none at stands.is)))))))) in absurd (cc)

byte_says : (text : List ℕ) {implicit : Bool} {at : ℕ} {answer : Result (List Token) LexFault} (r : Reads text implicit at answer) → blank_len (drop at text) ≡ None → (is_ascii_alphabetic (first (drop at text)) || first (drop at text) == underscore) ≡ false → is_ascii_digit (first (drop at text)) ≡ false → (first (drop at text) == backslash) ≡ false → (first (drop at text) == backquote) ≡ false → (first (drop at text) == apostrophe) ≡ false → (first (drop at text) == slash && second (drop at text) == star) ≡ false → (first (drop at text) == opening && second (drop at text) == star) ≡ false → is_mark (first (drop at text)) ≡ false → First text r
unfolding first_piece token_piece
byte_says text (ends implicit at over) none a d s q r0 r1 r2 r3 = tt
byte_says text (passes implicit at bytes answer stands rest) none a d s q r0 r1 r2 r3 = tt
byte_says text (sets implicit setting at bytes answer stands rest) none a d s q r0 r1 r2 r3 = tt
byte_says text (fails implicit at offset cause stands) none a d s q r0 r1 r2 r3 = tt
byte_says text (takes implicit at start bytes kind.Name answer stands rest) none a d s q r0 r1 r2 r3 = tt
byte_says text (takes implicit at start bytes (kind.Keyword place) answer stands rest) none a d s q r0 r1 r2 r3 = tt
byte_says text (takes implicit at start bytes (kind.Mark byte) answer stands rest) none a d s q r0 r1 r2 r3 = tt
byte_says text (takes implicit at start bytes (kind.Number number) answer stands rest) none a d s q r0 r1 r2 r3 = let h = rw r3 at (rw r2 at (rw r1 at (rw r0 at (rw q at (rw s at (rw d at (rw a at (rw none at stands.is)))))))) in absurd (cc)
byte_says text (takes implicit at start bytes (kind.Constant size value) answer stands rest) none a d s q r0 r1 r2 r3 = let h = rw r3 at (rw r2 at (rw r1 at (rw r0 at (rw q at (rw s at (rw d at (rw a at (rw none at stands.is)))))))) in absurd (cc)

begins_word : (xs : List ℕ) → blank_len xs ≡ None → (is_ascii_alphabetic (first xs) || first xs == underscore) ≡ true → first_piece xs ≡ word_piece xs
unfolding first_piece token_piece
begins_word xs none a = rw none (rw a (refl))

begins_number : (xs : List ℕ) → blank_len xs ≡ None → (is_ascii_alphabetic (first xs) || first xs == underscore) ≡ false → is_ascii_digit (first xs) ≡ true → first_piece xs ≡ number_piece xs
unfolding first_piece token_piece
begins_number xs none a d = rw none (rw a (rw d (refl)))

begins_escaped : (xs : List ℕ) → blank_len xs ≡ None → (is_ascii_alphabetic (first xs) || first xs == underscore) ≡ false → is_ascii_digit (first xs) ≡ false → (first xs == backslash) ≡ true → first_piece xs ≡ escaped_piece xs
unfolding first_piece token_piece
begins_escaped xs none a d s = rw none (rw a (rw d (rw s (refl))))

begins_directive : (xs : List ℕ) → blank_len xs ≡ None → (is_ascii_alphabetic (first xs) || first xs == underscore) ≡ false → is_ascii_digit (first xs) ≡ false → (first xs == backslash) ≡ false → (first xs == backquote) ≡ true → first_piece xs ≡ directive_piece xs
unfolding first_piece token_piece
begins_directive xs none a d s q = rw none (rw a (rw d (rw s (rw q (refl)))))

escapes_say : (text : List ℕ) {implicit : Bool} {at : ℕ} {answer : Result (List Token) LexFault} (r : Reads text implicit at answer) → first_piece (drop at text) ≡ escaped_piece (drop at text) → First text r
escapes_say text {at = at} r e = go (nat_lt 0 (escaped_len (drop at text)) && is_parted (drop (1 + escaped_len (drop at text)) (drop at text))) refl
  where
    go : (c : Bool) → (nat_lt 0 (escaped_len (drop at text)) && is_parted (drop (1 + escaped_len (drop at text)) (drop at text))) ≡ c → First text r
    go true t = escaped_says text r e t
    go false t = bare_says text r e t

directives_say : (text : List ℕ) {implicit : Bool} {at : ℕ} {answer : Result (List Token) LexFault} (r : Reads text implicit at answer) → first_piece (drop at text) ≡ directive_piece (drop at text) → First text r
directives_say text {at = at} r e = go (bytes_eq (directive_name (drop at text)) (codes "timescale")) refl (is_cell_directive (directive_name (drop at text))) refl (bytes_eq (directive_name (drop at text)) (codes "resetall")) refl (bytes_eq (directive_name (drop at text)) (codes "default_nettype")) refl (bytes_eq (setting_name (drop at text)) (codes "wire")) refl (bytes_eq (setting_name (drop at text)) (codes "none")) refl
  where
    go : (b0 : Bool) → bytes_eq (directive_name (drop at text)) (codes "timescale") ≡ b0 → (b1 : Bool) → is_cell_directive (directive_name (drop at text)) ≡ b1 → (b2 : Bool) → bytes_eq (directive_name (drop at text)) (codes "resetall") ≡ b2 → (b3 : Bool) → bytes_eq (directive_name (drop at text)) (codes "default_nettype") ≡ b3 → (c0 : Bool) → bytes_eq (setting_name (drop at text)) (codes "wire") ≡ c0 → (c1 : Bool) → bytes_eq (setting_name (drop at text)) (codes "none") ≡ c1 → First text r
    go true t0 b1 t1 b2 t2 b3 t3 c0 s0 c1 s1 = timescale_says text r e t0
    go false t0 true t1 b2 t2 b3 t3 c0 s0 c1 s1 = cells_say text r e t0 t1
    go false t0 false t1 true t2 b3 t3 c0 s0 c1 s1 = resetall_says text r e t0 t1 t2
    go false t0 false t1 false t2 false t3 c0 s0 c1 s1 = unknown_says text r e t0 t1 t2 t3
    go false t0 false t1 false t2 true t3 true s0 c1 s1 = wire_says text r e t0 t1 t2 t3 s0
    go false t0 false t1 false t2 true t3 false s0 true s1 = none_says text r e t0 t1 t2 t3 s0 s1
    go false t0 false t1 false t2 true t3 false s0 false s1 = unset_says text r e t0 t1 t2 t3 s0 s1

rest_says : (text : List ℕ) {implicit : Bool} {at : ℕ} {answer : Result (List Token) LexFault} (r : Reads text implicit at answer) → blank_len (drop at text) ≡ None → (is_ascii_alphabetic (first (drop at text)) || first (drop at text) == underscore) ≡ false → is_ascii_digit (first (drop at text)) ≡ false → (first (drop at text) == backslash) ≡ false → (first (drop at text) == backquote) ≡ false → First text r
rest_says text {at = at} r none a d s q = go ((first (drop at text) == apostrophe)) refl ((first (drop at text) == slash && second (drop at text) == star)) refl ((first (drop at text) == opening && second (drop at text) == star)) refl (is_mark (first (drop at text))) refl
  where
    go : (b0 : Bool) → (first (drop at text) == apostrophe) ≡ b0 → (b1 : Bool) → (first (drop at text) == slash && second (drop at text) == star) ≡ b1 → (b2 : Bool) → (first (drop at text) == opening && second (drop at text) == star) ≡ b2 → (b3 : Bool) → is_mark (first (drop at text)) ≡ b3 → First text r
    go true r0 b1 r1 b2 r2 b3 r3 = quote_says text r none a d s q r0
    go false r0 true r1 b2 r2 b3 r3 = comment_says text r none a d s q r0 r1
    go false r0 false r1 true r2 b3 r3 = attribute_says text r none a d s q r0 r1 r2
    go false r0 false r1 false r2 true r3 = mark_says text r none a d s q r0 r1 r2 r3
    go false r0 false r1 false r2 false r3 = byte_says text r none a d s q r0 r1 r2 r3

-- the first token of what a text holds from a place on says what its bytes say
pub first_says : (text : List ℕ) {implicit : Bool} {at : ℕ} {answer : Result (List Token) LexFault} (r : Reads text implicit at answer) → First text r
first_says text {at = at} r = blank (blank_len (drop at text)) refl
  where
    byte : blank_len (drop at text) ≡ None → (b0 : Bool) → (is_ascii_alphabetic (first (drop at text)) || first (drop at text) == underscore) ≡ b0 → (b1 : Bool) → is_ascii_digit (first (drop at text)) ≡ b1 → (b2 : Bool) → (first (drop at text) == backslash) ≡ b2 → (b3 : Bool) → (first (drop at text) == backquote) ≡ b3 → First text r
    byte none true a b1 d b2 s b3 q = word_says text r (begins_word (drop at text) none a)
    byte none false a true d b2 s b3 q = numbers_say text r (begins_number (drop at text) none a d)
    byte none false a false d true s b3 q = escapes_say text r (begins_escaped (drop at text) none a d s)
    byte none false a false d false s true q = directives_say text r (begins_directive (drop at text) none a d s q)
    byte none false a false d false s false q = rest_says text r none a d s q

    blank : (o : Option ℕ) → blank_len (drop at text) ≡ o → First text r
    blank None none = byte none ((is_ascii_alphabetic (first (drop at text)) || first (drop at text) == underscore)) refl (is_ascii_digit (first (drop at text))) refl ((first (drop at text) == backslash)) refl ((first (drop at text) == backquote)) refl
    blank (Some n) some = passed_say text r n some

-- ## All tokens

abbrev AllSay : List ℕ → Result (List Token) LexFault → Type 0
AllSay text (Ok tokens) = (k : ℕ) (token : Token) → slice_get tokens k ≡ Some token → Says text token.start token.end token.kind
AllSay text (Err fault) = Unit {0}

one_more : (text : List ℕ) (token : Token) (answer : Result (List Token) LexFault) → Says text token.start token.end token.kind → AllSay text answer → AllSay text (with_token token answer)
one_more text token (Err fault) here there = tt
one_more text token (Ok tokens) here there = go
  where
    go : (k : ℕ) (other : Token) → slice_get (token ∷ tokens) k ≡ Some other → Says text other.start other.end other.kind
    go zero other e = subst (λ (t : Token). Says text t.start t.end t.kind) (same_Some token other e) here
    go (suc k) other e = there k other e

all_say : (text : List ℕ) {implicit : Bool} {at : ℕ} {answer : Result (List Token) LexFault} → Reads text implicit at answer → AllSay text answer
all_say text (ends implicit at over) = λ k token e. absurd (none-some token e)
all_say text (passes implicit at bytes answer stands rest) = all_say text rest
all_say text (sets implicit setting at bytes answer stands rest) = all_say text rest
all_say text (takes implicit at start bytes k answer stands rest) = one_more text (record { kind = k; start = at + start; end = at + bytes; implicit = implicit }) answer (first_says text (takes implicit at start bytes k answer stands rest)) (all_say text rest)
all_say text (fails implicit at offset cause stands) = tt

pub tokens_say_digits : TokensSayDigits
tokens_say_digits text tokens r = all_say text r
