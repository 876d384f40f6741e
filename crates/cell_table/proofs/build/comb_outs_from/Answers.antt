use Rattle.std.proofs.Common.{arith}
use Rattle.cell_table.proofs.JudgeLemmas.{output_is_short}
use Rattle.cell_table.proofs.build.comb_outs_from.Goals as goal

pub number_from-table-requires : goal.number_from-table-requires
number_from-table-requires c =
    rw c.as_slice.ensures (output_is_short c.args.inputs c.args.outputs.now c.loop-output.output-index c.output-item.result c.output-item.is (omega arith) c.loop-output.invariant.sized c.requires.within)
