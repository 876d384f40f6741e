use Rattle.std.proofs.Common.{◌*◌}
use Rattle.std.proofs.lemmas.List.{take_rest}
use Rattle.event_replay.proofs.HexDigits.{digit_of}
use Rattle.event_replay.proofs.trace.digit_at.Goals as goal

pub returns-clause-digit : goal.returns-clause-digit
returns-clause-digit c =
    digit_of c.args.after c.args.bits.now _ _ _ _ _ (take_rest c.args.bits.now (c.args.after * 4)) c.bit_at.ensures.value c.bit_at-2.ensures.value c.bit_at-3.ensures.value c.bit_at-4.ensures.value
