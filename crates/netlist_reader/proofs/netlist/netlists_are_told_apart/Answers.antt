use Rattle.netlist_reader.proofs.Netless.{told_apart}
use Rattle.netlist_reader.proofs.netlist.netlists_are_told_apart.Goals as goal

pub returns : goal.returns
returns c = told_apart
