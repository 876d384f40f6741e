use Rattle.std.proofs.Common.{rules}
use Rattle.verilog_tree.proofs.Headers.{head_absent, head_answers}
use Rattle.verilog_tree.proofs.header.read_head.Goals as goal

pub returns-in_default : goal.returns-in_default
returns-in_default c = head_absent _ _ _ c.requires c.new.ensures (search rules)

pub returns : goal.returns
returns c = head_answers _ _ c.read_header.result (search rules) c.read_header.ensures
