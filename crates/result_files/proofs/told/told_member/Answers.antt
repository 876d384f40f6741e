use Rattle.std.proofs.Common.{sym}
use Rattle.result_files.proofs.told.told_member.Goals as goal
use Rattle.result_files.proofs.Refusals.{member_answered}

pub returns-in-Some : goal.returns-in-Some
returns-in-Some g c = member_answered g.T.Told.Says _ _ _ _ (sym c.in-Some.ensures) c.told_list.ensures
