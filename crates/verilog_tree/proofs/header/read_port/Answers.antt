use Rattle.std.proofs.Common.{rules}
use Rattle.verilog_tree.proofs.Headers.{port_bare, port_answers}
use Rattle.verilog_tree.proofs.header.read_port.Goals as goal
use Rattle.verilog_tree.proofs.header.read_port.Goals.{in_default-via-in-Some+in_default, in_default-via-in_default}

pub returns-in-Some-Name : goal.returns-in-Some-Name
returns-in-Some-Name c = port_bare _ _ _ (search rules)

pub returns-in_default : goal.returns-in_default
returns-in_default c = elim c.in_default.branch [
  | in_default-via-in-Some+in_default w ↦ port_answers _ _ _ c.read_one.result (search rules) c.read_one.ensures
  | in_default-via-in_default w ↦ port_answers _ _ _ c.read_one.result (search rules) c.read_one.ensures
]
