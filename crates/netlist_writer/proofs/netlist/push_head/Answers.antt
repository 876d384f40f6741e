use Rattle.netlist_writer.proofs.netlist.push_head.Goals as goal
use Rattle.netlist_writer.proofs.ShownLemmas.{head_made}

pub returns : goal.returns
returns c = head_made _ _ _ _ c.args.number c.in_ok-append.ensures c.in_ok-append_number.ensures c.in_ok-append-2.ensures
