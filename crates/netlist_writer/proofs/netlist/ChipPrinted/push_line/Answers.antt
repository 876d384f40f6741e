use Rattle.netlist_writer.proofs.netlist.ChipPrinted.push_line.Goals as goal
use Rattle.netlist_writer.proofs.ShownLemmas.{chip_made}

pub returns : goal.returns
returns c =
    chip_made _ _ _ _ _ _ _ c.args.number c.args.self.now _ _ _ c.as_slice.ensures c.as_slice-2.ensures c.as_slice-3.ensures c.in_ok-push_head.ensures c.in_ok-push_wires.ensures c.in_ok-push_lines.ensures c.in_ok-push_lines-2.ensures c.in_ok-push_lines-3.ensures c.in_ok-append.ensures
