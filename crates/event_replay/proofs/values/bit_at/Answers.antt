use Rattle.std.proofs.Common.{◌∙◌, sym, ap, arith, ◌==◌, ◌%◌, ◌-◌, ◌/◌, get_or, length}
use Rattle.design_core.specs.Operation.{bit_of}
use Rattle.event_replay.proofs.ReadDigits.{digit_read, bit_found, bit_beyond}
use Rattle.event_replay.proofs.values.bit_at.Goals as goal

pub returns-then-after-digits : goal.returns-then-after-digits
returns-then-after-digits c =
    ap (λ n. n == 1) (sym (bit_beyond c.args.digits.now c.args.place c.requires (omega arith)))

pub returns-in-Some : goal.returns-in-Some
returns-in-Some c =
    let read = digit_read (get_or c.args.digits.now (length c.args.digits.now - 1 - c.args.place / 4) 0) c.in-Some.digit _ c.digit_value.ensures c.in-Some.is in
    c.bit_in_digit.ensures
    ∙ ap (λ v. bit_of v (c.args.place % 4)) read.1
    ∙ ap (λ n. n == 1) (sym (bit_found c.args.digits.now c.args.place c.requires (omega arith)))
