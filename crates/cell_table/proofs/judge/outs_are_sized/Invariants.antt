use Rattle.std.proofs.Common.{◌≡◌, drop}
use Rattle.cell_table.specs.Judge.{outs_are_sized}
use Rattle.cell_table.proofs.judge.outs_are_sized.Given as goal

abbrev pub invariant-loop-out : goal.invariant-loop-out
invariant-loop-out l = outs_are_sized l.inputs (drop l.out-index l.outputs) ≡ outs_are_sized l.inputs l.outputs
