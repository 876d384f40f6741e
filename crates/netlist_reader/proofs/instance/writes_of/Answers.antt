use Rattle.std.proofs.Common.{refl}
use Rattle.netlist_reader.proofs.Ports.{writes_taken}
use Rattle.netlist_reader.proofs.instance.writes_of.Goals as goal

pub ports-preserved : goal.ports-preserved
ports-preserved c =
    writes_taken c.args.shape c.args.pins.now c.ports.left.now c.ports.counter _ _ _ _ c.ports-test.true refl c.ports.invariant c.in_ok-write.ensures c.in_ok-push.ensures.ok
