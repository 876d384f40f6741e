use Rattle.std.proofs.Common.{◌≡◌, drop}
use Rattle.cell_table.specs.Build.{number_of}
use Rattle.cell_table.proofs.build.number_from.Given as goal

abbrev pub invariant-loop-i : goal.invariant-loop-i
invariant-loop-i l = l.number ≡ number_of (drop l.i l.bits)
