use Rattle.std.proofs.Common.{◌-◌, length}
use Rattle.verilog_tree.proofs.Modules.{Gathered}
use Rattle.verilog_tree.proofs.module.read_source.Given as goal

abbrev pub invariant-modules : goal.invariant-modules
invariant-modules l = Gathered l.reader l.at l.modules

abbrev pub decreases-modules : goal.decreases-modules
decreases-modules l = length l.reader - l.at
