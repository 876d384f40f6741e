use Rattle.std.proofs.Common.{false, get_or}
use Rattle.event_replay.proofs.OutputBits.{port_more, ports_after_there}
use Rattle.event_replay.proofs.settling.output_bits.Goals as goal

pub ports-preserved : goal.ports-preserved
ports-preserved c = (
  port_more (λ net. get_or c.args.values.now net.place false) c.args.outputs.now c.ports.port-index c.port-item.result _ _ _ _ c.ports-test.true c.port-item.is c.as_slice.ensures c.in_ok-push_values.ensures c.ports.invariant.0,
  ports_after_there _ c.args.outputs.now c.ports.port-index c.port-item.result c.ports-test.true c.port-item.is c.ports.invariant.1,
)
