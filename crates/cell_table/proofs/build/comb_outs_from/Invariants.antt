use Rattle.std.proofs.Common.{◌≡◌, ◌++◌, map, drop, true}
use Rattle.cell_table.specs.Build.{comb_out_of}
use Rattle.cell_table.specs.Judge.{outs_are_sized}
use Rattle.cell_table.proofs.build.comb_outs_from.Given as goal

abbrev pub invariant-loop-output : goal.invariant-loop-output
invariant-loop-output l = record {
  built : l.outs ++ map comb_out_of (drop l.output-index l.outputs) ≡ map comb_out_of l.outputs;
  sized : outs_are_sized l.inputs (drop l.output-index l.outputs) ≡ true;
}
