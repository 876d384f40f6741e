use Rattle.std.proofs.Common.{◌∙◌, ℕ, Some, ap}
use Rattle.flattening.specs.Places.{index_at}
use Rattle.elaborator.proofs.OwnNets.{bit_more, nets_none}
use Rattle.elaborator.proofs.entering.push_range.Goals as goal

pub bits-preserved : goal.bits-preserved
bits-preserved c =
    bit_more c.args.making.now c.bits.making c.push_bit.new.making c.args.scope c.args.name.now (λ bit. Some (index_at c.args.range bit)) c.bits.bit (Some c.index_at.result)
    (ap (λ (k : ℕ). Some k) c.index_at.ensures) c.bits.invariant c.in_ok-push_bit.ensures
