-- The ledger is that of the blank.
use Rattle.frame_marks.proofs.frame.FrameMarks.follow.Given as goal

abbrev pub ghosts-follow_blank : goal.ghosts-follow_blank
ghosts-follow_blank g a = record { name = a.blank.name; parts = a.blank.parts }
