-- A memory has at most 2 to 16 words of at most 128 bits.
use Rattle.std.proofs.Common.{arith}
use Rattle.design_core.proofs.Bounds.{weight_fits}
use Rattle.design_core.proofs.design.Design.memory_weight.Goals as goal

pub overflow_mul-result : goal.overflow_mul-result
overflow_mul-result c =
    let fits = weight_fits c.mem-memory.result.now c.word_number.result c.from.result c.mem-memory.ensures.fits c.word_number.ensures.words c.from.ensures in
    omega arith
