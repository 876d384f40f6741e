-- The outputs of the first gates are told.
use Rattle.std.proofs.Common.{take}
use Rattle.frame_marks.specs.Starts.{OutputsTold}
use Rattle.frame_marks.proofs.starts.mark_outputs.Given as goal

abbrev pub invariant-gates : goal.invariant-gates
invariant-gates l = OutputsTold (take l.gate-index l.gates) l.initial.gated l.gated
