use Rattle.std.proofs.Common.{◌≡◌, ◌∙◌, ◌<◌, ◌+◌, ◌*◌, ◌^◌, IsTrue, Some, ℕ, List, drop, get_or, length, sym, ap, subst, arith, rules}
use Rattle.std.specs.Prelude.{unwrap_or}
use Rattle.std.specs.Char.{digit_value}
use Rattle.std.proofs.lemmas.List.{drop_more}
use Rattle.event_replay.specs.Values.{hex_number, is_hex}
use Rattle.event_replay.proofs.Valued.{digit_taken, hex_at}
use Rattle.event_replay.proofs.values.number_of.Goals as goal

pub overflow_mul-number : goal.overflow_mul-number
overflow_mul-number c =
    let within : c.digits.byte-index < length c.args.digits.now = omega arith in
    let step = digit_taken c.digits.number c.digits.byte-index c.args.digits.now within c.requires.hex c.digits.invariant in
    omega (arith, step.low, c.requires.fits)

pub overflow_add-number : goal.overflow_add-number
overflow_add-number c =
    let within : c.digits.byte-index < length c.args.digits.now = omega arith in
    let step = digit_taken c.digits.number c.digits.byte-index c.args.digits.now within c.requires.hex c.digits.invariant in
    let read = hex_at c.digit_value.result (get_or c.args.digits.now c.digits.byte-index 0) step.hex c.digit_value.ensures in
    let is : c.from.result ≡ digit_value (get_or c.args.digits.now c.digits.byte-index 0) = c.from.ensures ∙ c.unwrap_or.ensures ∙ ap (λ o. unwrap_or o 0) read in
    omega (arith, is, step.low, c.requires.fits)

pub digits-preserved : goal.digits-preserved
digits-preserved c =
    let within : c.digits.byte-index < length c.args.digits.now = omega arith in
    let step = digit_taken c.digits.number c.digits.byte-index c.args.digits.now within c.requires.hex c.digits.invariant in
    let read = hex_at c.digit_value.result (get_or c.args.digits.now c.digits.byte-index 0) step.hex c.digit_value.ensures in
    let is : c.from.result ≡ digit_value (get_or c.args.digits.now c.digits.byte-index 0) = c.from.ensures ∙ c.unwrap_or.ensures ∙ ap (λ o. unwrap_or o 0) read in
    subst (λ d. (c.digits.number * 16 + d) * 16 ^ length (drop (c.digits.byte-index + 1) c.args.digits.now) + hex_number (drop (c.digits.byte-index + 1) c.args.digits.now) ≡ hex_number c.args.digits.now) (sym is) step.next
