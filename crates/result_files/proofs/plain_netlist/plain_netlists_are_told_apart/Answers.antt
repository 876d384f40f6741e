use Rattle.result_files.proofs.plain_netlist.plain_netlists_are_told_apart.Goals as goal
use Rattle.result_files.proofs.Chips.{one_said}

pub returns : goal.returns
returns c = one_said
