use Rattle.std.proofs.Common.{rules}
use Rattle.netlist_reader.proofs.shape.gate_shape.Goals as goal
use Rattle.netlist_reader.proofs.Shapes.{shows_name}

pub returns-in-None : goal.returns-in-None
returns-in-None c =
    shows_name c.args.nets c.args.rest.now _ _ (search rules) c.in-None.ensures c.name.ensures c.name_shape.ensures
