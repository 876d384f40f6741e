use Rattle.netlist_reader.proofs.HexNumbers.{no_one, one_there}
use Rattle.netlist_reader.proofs.hex.one_value.Goals as goal

pub returns-in-Some : goal.returns-in-Some
returns-in-Some c = one_there _ _ _ c.from.ensures c.in-Some.ensures

pub returns-in-None : goal.returns-in-None
returns-in-None c = no_one c.args.byte c.in-None.ensures
