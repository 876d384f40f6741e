use Rattle.std.proofs.Common.{arith}
use Rattle.event_replay.proofs.HexDigits.{hex_step}
use Rattle.event_replay.proofs.trace.push_value.Goals as goal

pub digits-preserved : goal.digits-preserved
digits-preserved c = (
  hex_step _ _ _ _ _ _ _ _ (omega arith) c.digit_at.ensures.digit c.glyph.ensures c.in_ok-append.ensures c.digits.invariant.0,
  omega arith,
)
