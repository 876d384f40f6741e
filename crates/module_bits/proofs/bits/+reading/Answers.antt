use Rattle.std.proofs.Common.{map}
use Rattle.module_bits.specs.Bits.{bits, first_some, joined, misplaced, unknown}
use Rattle.module_bits.proofs.Adding.{adds_repeated}
use Rattle.module_bits.proofs.bits.+reading.Goals as goal

pub read_repeat-returns : goal.read_repeat-returns
read_repeat-returns t c =
    let k = c.args.context.now in
    let parts = c.args.parts.now in
    adds_repeated c.args.reading.now c.read_parts-2.new.reading c.add_copies.new.self
    (joined (map (bits k) parts)) (first_some (map (unknown k) parts)) (first_some (map (misplaced k) parts))
    c.len-start.result c.args.count c.from.result c.add_copies.result
    c.len-start.ensures c.from.ensures c.if-count-eq0.false c.in_ok-read_parts-2.ensures c.add_copies.ensures
