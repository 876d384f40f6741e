use Rattle.std.proofs.Common.{◌-◌, length}
use Rattle.verilog_tree.proofs.Items.{Gathered}
use Rattle.verilog_tree.proofs.item.read_items.Given as goal

abbrev pub invariant-items : goal.invariant-items
invariant-items l = Gathered l.reader l.from l.at l.items

abbrev pub decreases-items : goal.decreases-items
decreases-items l = length l.reader - l.at
