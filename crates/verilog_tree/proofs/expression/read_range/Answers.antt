use Rattle.std.proofs.Common.{rules}
use Rattle.verilog_tree.proofs.Ranges.{range_absent, range_read}
use Rattle.verilog_tree.proofs.expression.read_range.Goals as goal

pub returns-in_default : goal.returns-in_default
returns-in_default c = range_absent _ _ c.requires (search rules)

pub returns-in_default-2 : goal.returns-in_default-2
returns-in_default-2 c = range_absent _ _ c.requires (search rules)

pub returns : goal.returns
returns c = range_read _ _ _ _ _ _ _ _ (search rules) c.in_ok-left.ensures c.in_ok-colon.ensures c.in_ok-right.ensures c.in_ok-next.ensures
