-- A word can only be one of the reserved words that begin with its letter.
use Rattle.std.proofs.Common.{◌≡◌, [], bytes_eq, get_or, sym, ◌∙◌, ap, arith, below_more}
use Rattle.std.proofs.lemmas.Option.{get_or_from_slice_get}
use Rattle.verilog_lex.specs.Words.{reserved_words}
use Rattle.verilog_lex.proofs.Reserved.{no_letter, no_second, no_bucket, in_bucket, reserved_words-length}
use Rattle.verilog_lex.proofs.word.reserved_place.Goals as goal

pub returns-then-not-is_ascii_lowercase : goal.returns-then-not-is_ascii_lowercase
returns-then-not-is_ascii_lowercase c = no_letter c.args.word.now c.byte_at-letter.result c.byte_at-letter.ensures (sym c.is_ascii_lowercase.ensures.value ∙ c.if-not-is_ascii_lowercase.true)

pub returns-then-not-is_ascii_lowercase-2 : goal.returns-then-not-is_ascii_lowercase-2
returns-then-not-is_ascii_lowercase-2 c = no_second c.args.word.now c.byte_at-second.result c.byte_at-second.ensures (sym c.is_ascii_lowercase-2.ensures.value ∙ c.if-not-is_ascii_lowercase-2.true)

pub reserved_word-requires : goal.reserved_word-requires
reserved_word-requires c =
    let size = reserved_words-length in
    omega (arith, size, c.bucket_start-place-end.ensures.splits.within)

pub returns-then-eq : goal.returns-then-eq
returns-then-eq c =
    let size = reserved_words-length in
    let there : get_or reserved_words c.loop-place.place [] ≡ c.reserved_word.result.now = get_or_from_slice_get reserved_words c.loop-place.place c.reserved_word.result.now [] c.reserved_word.ensures in
    let same = ap (bytes_eq c.args.word.now) there ∙ sym c.eq.ensures ∙ c.if-eq.true in
    rw c.from.ensures (in_bucket c.args.word.now c.loop-place.place (omega (arith, size, c.bucket_start-place-end.ensures.splits.within)) c.loop-place.invariant same)

pub loop-place-preserved : goal.loop-place-preserved
loop-place-preserved c =
    let there : get_or reserved_words c.loop-place.place [] ≡ c.reserved_word.result.now = get_or_from_slice_get reserved_words c.loop-place.place c.reserved_word.result.now [] c.reserved_word.ensures in
    below_more _ _ c.loop-place.invariant (ap (bytes_eq c.args.word.now) there ∙ sym c.eq.ensures ∙ c.if-eq.false)

pub returns : goal.returns
returns c = no_bucket c.args.word.now c.byte_at-letter.result c.bucket_start-place-end.result c.byte_at-letter.ensures c.bucket_start-place-end.ensures.splits (λ k below. c.loop-place.invariant k (omega arith))
