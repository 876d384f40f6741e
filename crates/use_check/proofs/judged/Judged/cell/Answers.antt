-- The numbers of cells are small.
use Rattle.std.proofs.Common.{◌<◌, arith}
use Rattle.std.specs.Prelude.{◌%◌}
use Rattle.std.proofs.Math.Nat.{mod-lt}
use Rattle.use_check.proofs.Numbering.{number_low}
use Rattle.use_check.proofs.judged.Judged.cell.Goals as goal

pub overflow_mul-result : goal.overflow_mul-result
overflow_mul-result c =
    omega (arith, c.part_number.ensures, number_low c.args.self.now.results.now.net c.requires.judged.netlist c.requires.judged.can.chips c.args.part c.requires.part)

pub overflow_add-result : goal.overflow_add-result
overflow_add-result c =
    let eight : c.args.slot % 8 < 8 = mod-lt c.args.slot (omega arith) in
    omega (arith, eight, c.from.ensures, c.part_number.ensures, number_low c.args.self.now.results.now.net c.requires.judged.netlist c.requires.judged.can.chips c.args.part c.requires.part)
