use Rattle.std.proofs.Common.{◌∙◌, ap, sym, w64, arith, ◌%◌}
use Rattle.std.proofs.lemmas.Nat.Bits.{bit_at_set_same, bit_at_set_other, bit_at_clear_same, bit_at_clear_other}
use Rattle.link_rows.proofs.WordBits.{bit_in-set, bit_for}
use Rattle.link_rows.proofs.words.put_bit.Goals as goal

pub returns-then-value : goal.returns-then-value
returns-then-value c k =
    let place = c.args.at % 64 in
    bit_in-set c.args.words.now c.args.at k _ c.args.value c.requires
    (bit_at_set_same w64 _ place (omega arith) ∙ sym (ap bit_for c.if-value.true))
    (λ j below other. bit_at_set_other w64 _ place (omega arith) j other)

pub returns-else-value : goal.returns-else-value
returns-else-value c k =
    let place = c.args.at % 64 in
    bit_in-set c.args.words.now c.args.at k _ c.args.value c.requires
    (bit_at_clear_same w64 _ place (omega arith) ∙ sym (ap bit_for c.if-value.false))
    (λ j below other. bit_at_clear_other w64 _ place (omega arith) j below other)
