-- A memory has at most 16 address bits.
use Rattle.std.proofs.Common.{arith}
use Rattle.design_core.proofs.Bounds.{shift_fits}
use Rattle.design_core.proofs.Powers.{shift_is}
use Rattle.design_core.proofs.limits.word_number.Goals as goal

pub overflow_shl-result : goal.overflow_shl-result
overflow_shl-result c = let fits = shift_fits c.args.memory.now c.requires in omega (arith, fits.0)

pub returns : goal.returns
returns c =
    let fits = shift_fits c.args.memory.now c.requires in
    let same = shift_is c.args.memory.now.address_bits fits.0 in
    record { words = same; few = rw same fits.1 }
