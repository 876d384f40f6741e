use Rattle.std.specs.Int.{bit_at}
use Rattle.module_bits.specs.Bits.{net_at}
use Rattle.module_bits.proofs.Pushing.{half_next, low_bit, pushed_next}
use Rattle.module_bits.proofs.reading.push_value.Goals as goal

pub bits-preserved : goal.bits-preserved
bits-preserved c = (
  half_next c.args.value c.bits.rest c.bits.counter c.bits.invariant.0,
  pushed_next (λ i. net_at (bit_at c.args.value i)) 0 c.bits.counter c.args.out.now c.bits.out c.push.new.self c.of.result c.bits.invariant.1 c.in_ok-push.ensures.ok
      (low_bit c.args.value c.bits.rest c.bits.counter c.of.result c.bits.invariant.0 c.of.ensures),
)
