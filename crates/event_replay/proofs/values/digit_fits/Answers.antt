use Rattle.std.proofs.Common.{sym, ap, subst, arith, rules, ◌<◌, ◌*◌, ◌^◌}
use Rattle.event_replay.proofs.ReadDigits.{digit_read, too_high, with_room}
use Rattle.event_replay.proofs.values.digit_fits.Goals as goal

pub returns-then-after-width : goal.returns-then-after-width
returns-then-after-width c =
    let read = digit_read c.args.byte c.in-Some.digit _ c.digit_value.ensures c.in-Some.is in (
      λ f. absurd (search rules),
      λ h. absurd (too_high _ c.args.after c.args.width (omega (arith, read.1)) (omega arith) h.1),
    )

pub returns : goal.returns
returns c =
    let read = digit_read c.args.byte c.in-Some.digit _ c.digit_value.ensures c.in-Some.is in
    let room = with_room c.in-Some.digit c.args.after c.args.width (omega arith) in
    let same = ap (λ v. v * 16 ^ c.args.after < 2 ^ c.args.width) read.1 in (
      λ f. (read.0, subst (λ v. v * 16 ^ c.args.after < 2 ^ c.args.width) read.1 (room.0 (c.takes_at_most.ensures.0 f))),
      λ h. c.takes_at_most.ensures.1 (room.1 (subst (λ v. v * 16 ^ c.args.after < 2 ^ c.args.width) (sym read.1) h.1)),
    )
