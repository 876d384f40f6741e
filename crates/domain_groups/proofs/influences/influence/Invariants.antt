use Rattle.domain_groups.proofs.FrameRows.{FirstReached}
use Rattle.domain_groups.proofs.influences.influence.Given as goal

abbrev pub invariant-frames : goal.invariant-frames
invariant-frames l = FirstReached l.ranked.design l.groups l.table l.k
