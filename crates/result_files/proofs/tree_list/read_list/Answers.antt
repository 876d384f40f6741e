use Rattle.result_files.proofs.tree_list.read_list.Goals as goal
use Rattle.result_files.proofs.Refusals.{list_answered}

pub returns-in-Some : goal.returns-in-Some
returns-in-Some g c = list_answered g.T.FromTree.Says _ _ _ c.in-Some.ensures.entries c.in-Some.ensures.few c.read_each.ensures
