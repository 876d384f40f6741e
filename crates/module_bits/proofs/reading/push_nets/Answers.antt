use Rattle.module_bits.specs.Bits.{net_at}
use Rattle.module_bits.proofs.Pushing.{pushed_next}
use Rattle.module_bits.proofs.reading.push_nets.Goals as goal

pub nets-preserved : goal.nets-preserved
nets-preserved c =
    pushed_next net_at c.args.low c.nets.k c.args.out.now c.nets.out c.push.new.self c.of.result c.nets.invariant (c.in_ok-push.ensures.ok) c.of.ensures
