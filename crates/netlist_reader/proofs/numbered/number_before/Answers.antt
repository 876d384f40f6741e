use Rattle.netlist_reader.proofs.numbered.number_before.Goals as goal
use Rattle.netlist_reader.proofs.Names.{no_bar, no_number, number_there}

pub returns-in_default : goal.returns-in_default
returns-in_default c = no_bar _ (rw c.in_default.is at c.bar_place.ensures)

pub returns-in-None : goal.returns-in-None
returns-in-None c = no_number _ _ c.in-Some.ensures c.in-None.ensures

pub returns-in-Some-number_of : goal.returns-in-Some-number_of
returns-in-Some-number_of c = number_there _ _ _ c.in-Some.ensures c.in-Some-number_of.ensures
