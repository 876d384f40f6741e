use Rattle.std.proofs.Common.{rules}
use Rattle.verilog_tree.proofs.Selects.{select_absent, select_bit, select_part, select_wrong}
use Rattle.verilog_tree.proofs.expression.read_select.Goals as goal
use Rattle.verilog_tree.proofs.expression.read_select.Goals.{in_default-at-via-in-Some+in_default, in_default-at-via-in_default}

pub returns-in_default : goal.returns-in_default
returns-in_default c = select_absent _ _ c.requires.named (search rules)

pub returns-in-Some-CloseBracket : goal.returns-in-Some-CloseBracket
returns-in-Some-CloseBracket c = select_bit _ _ _ _ c.requires.named (search rules) c.in_ok-left.ensures (search rules)

pub returns-in_ok-next-in-Some-Colon : goal.returns-in_ok-next-in-Some-Colon
returns-in_ok-next-in-Some-Colon c = select_part _ _ _ _ _ _ _ c.requires.named (search rules) c.in_ok-left.ensures (search rules) c.in_ok-right-in-Some-Colon.ensures c.in_ok-next-in-Some-Colon.ensures

pub returns-in_default-at : goal.returns-in_default-at
returns-in_default-at c = elim c.in_default-at.branch [
  | in_default-at-via-in-Some+in_default w ↦ select_wrong _ _ _ _ (search rules) c.in_ok-left.ensures (search rules) (search rules)
  | in_default-at-via-in_default w ↦ select_wrong _ _ _ _ (search rules) c.in_ok-left.ensures (search rules) (search rules)
]
