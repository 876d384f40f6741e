use Rattle.std.proofs.Common.{rules}
use Rattle.verilog_tree.proofs.Headers.{header_none, header_of_directions, header_of_names}
use Rattle.verilog_tree.proofs.header.read_header.Goals as goal
use Rattle.verilog_tree.proofs.header.read_header.Goals.{in_default-via-in-Some+in_default, in_default-via-in_default}

pub returns-in-Some-CloseParen : goal.returns-in-Some-CloseParen
returns-in-Some-CloseParen c = header_none _ _ _ c.new.ensures (search rules)

pub returns-in-Some-Direction : goal.returns-in-Some-Direction
returns-in-Some-Direction c = header_of_directions _ _ c.in-Some-Direction.field-0-0 c.read_directions.result (search rules) c.read_directions.ensures

pub returns-in_default : goal.returns-in_default
returns-in_default c = elim c.in_default.branch [
  | in_default-via-in-Some+in_default w ↦ header_of_names _ _ c.read_list.result (search rules) (search rules) c.read_list.ensures
  | in_default-via-in_default w ↦ header_of_names _ _ c.read_list.result (search rules) (search rules) c.read_list.ensures
]
