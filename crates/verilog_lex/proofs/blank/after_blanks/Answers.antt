-- A blank passed leaves the same text after all blanks.
use Rattle.std.proofs.Common.{length}
use Rattle.verilog_lex.proofs.BlankSteps.{after_blanks-step}
use Rattle.verilog_lex.proofs.blank.after_blanks.Goals as goal

pub loop-bytes-preserved : goal.loop-bytes-preserved
loop-bytes-preserved c = after_blanks-step c.loop-bytes.rest.now c.in-Some.bytes (length c.args.text.now) _ c.in-Some.ensures.is c.in-Some.ensures.within c.loop-bytes.invariant
