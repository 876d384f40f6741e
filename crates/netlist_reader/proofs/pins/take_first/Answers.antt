use Rattle.netlist_reader.proofs.pins.take_first.Goals as goal
use Rattle.netlist_reader.proofs.Terminals.{opens_not}

pub returns-in_err-net : goal.returns-in_err-net
returns-in_err-net c =
    opens_not c.args.room _ _ _ _ c.from_residual.ensures c.requires c.if-room-gt0.true c.in_err-net.ensures
