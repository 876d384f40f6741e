use Rattle.std.proofs.Common.{rules}
use Rattle.netlist_writer.proofs.netlist.push_wires.Goals as goal
use Rattle.netlist_writer.proofs.ShownLemmas.{wire_made}

pub nets-preserved : goal.nets-preserved
nets-preserved c =
    wire_made _ _ _ _ _ c.nets.net c.args.nets _ (search rules) c.in_ok-append.ensures c.in_ok-append_number.ensures c.in_ok-append-2.ensures c.nets-test.true c.nets.invariant
