use Rattle.result_files.proofs.told.told_list.Goals as goal
use Rattle.result_files.proofs.ToldLists.{list_says_none}

pub returns-in-Err-Bad : goal.returns-in-Err-Bad
returns-in-Err-Bad g c = list_says_none g.T.Told.Says _ _ _ _ c.in-Some.ensures.entries c.in-Err-Bad.field-0-is c.in-Err-Bad.ensures
