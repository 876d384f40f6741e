-- A shift of one is a power.
use Rattle.std.proofs.Common.{arith}
use Rattle.std.proofs.Math.Pow.{pow_mono}
use Rattle.design_core.proofs.Powers.{shift_is}
use Rattle.elaborator.proofs.room.word_count.Goals as goal

pub returns : goal.returns
returns c =
    let same = shift_is c.args.address_bits (omega (arith, c.requires)) in
    record { is = same; low = rw same (pow_mono {i = c.args.address_bits} {j = 16} c.requires) }
