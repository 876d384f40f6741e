-- The last entries have been put.
use Rattle.std.proofs.Common.{◌≤◌, drop, length}
use Rattle.frame_marks.specs.Tables.{AreChipTables, AllOthersWait}
use Rattle.frame_marks.specs.Takes.{HavePut}
use Rattle.frame_marks.proofs.chips.put_given.Given as goal

abbrev pub invariant-given : goal.invariant-given
invariant-given g l = record {
  low : l.left ≤ length l.given;
  tables : AreChipTables l.plan.results.now l.chips;
  others : AllOthersWait l.plan.design.now l.plan.results.now (g.I.Inside.inside l.inside) l.chips;
  put : HavePut l.plan.results.now (g.I.Inside.inside l.inside) (drop l.left l.given) l.initial.chips l.chips;
}

abbrev pub decreases-given : goal.decreases-given
decreases-given g l = l.left
