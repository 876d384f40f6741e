use Rattle.std.specs.Prelude.{codes}
use Rattle.netlist_writer.specs.NetlistText.{memory_form, memory_pins}
use Rattle.netlist_writer.proofs.lines.EmuMemoryPrinted.push_line.Goals as goal
use Rattle.netlist_writer.proofs.ShownLemmas.{instance_made}

pub returns : goal.returns
returns c =
    instance_made _ _ _ _ _ (memory_form c.args.self.now) (codes "m") c.args.number (memory_pins c.args.self.now) c.in_ok-push_memory_form.ensures c.in_ok-push_name.ensures c.in_ok-push_ports.ensures c.in_ok-append.ensures
