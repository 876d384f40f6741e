use Rattle.netlist_reader.proofs.shape.name_shape.Goals as goal
use Rattle.netlist_reader.proofs.Shapes.{table_is}

pub returns-in-Some : goal.returns-in-Some
returns-in-Some c = table_is c.args.bytes.now _ _ c.in-Some.ensures
