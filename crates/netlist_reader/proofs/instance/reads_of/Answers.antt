use Rattle.std.proofs.Common.{refl}
use Rattle.netlist_reader.proofs.Ports.{reads_taken}
use Rattle.netlist_reader.proofs.instance.reads_of.Goals as goal

pub ports-preserved : goal.ports-preserved
ports-preserved c =
    reads_taken c.args.shape c.args.pins.now c.ports.left.now c.ports.counter _ _ _ _ c.ports-test.true refl c.ports.invariant c.in_ok-read.ensures c.in_ok-push.ensures.ok
