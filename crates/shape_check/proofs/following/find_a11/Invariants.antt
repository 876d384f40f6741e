use Rattle.std.proofs.Common.{[]}
use Rattle.emu_machine.specs.Acceptance.{FailsA11}
use Rattle.use_check.proofs.Walk.{NoneBefore}
use Rattle.shape_check.specs.Ends.{AreMarksOf}
use Rattle.shape_check.specs.Influences.{inside_of}
use Rattle.shape_check.proofs.following.find_a11.Given as goal

abbrev pub invariant-frames : goal.invariant-frames
invariant-frames l = NoneBefore (FailsA11 l.case (inside_of l.influences)) [] l.k × AreMarksOf l.case l.marks
