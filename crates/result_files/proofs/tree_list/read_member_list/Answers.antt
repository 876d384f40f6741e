use Rattle.std.proofs.Common.{sym}
use Rattle.result_files.proofs.tree_list.read_member_list.Goals as goal
use Rattle.result_files.proofs.Refusals.{member_answered}

pub returns-in-Some : goal.returns-in-Some
returns-in-Some g c = member_answered g.T.FromTree.Says _ _ _ _ (sym c.in-Some.ensures) c.read_list.ensures
