use Rattle.netlist_reader.proofs.shape.table_of.Goals as goal
use Rattle.std.proofs.Common.{rules}
use Rattle.netlist_reader.proofs.Stucks.{not_so}
use Rattle.netlist_reader.proofs.Shapes.{no_digits, no_table}

pub returns-in_default-hex_value : goal.returns-in_default-hex_value
returns-in_default-hex_value c =
    no_digits _ _ _ _ (search rules) c.in-Some.ensures c.in-Some-number_before.ensures c.in_default-hex_value.ensures

pub returns-else-is_table : goal.returns-else-is_table
returns-else-is_table c =
    no_table _ _ _ _ _ (search rules) c.in-Some-hex_value.ensures c.in-Some.ensures c.in-Some-number_before.ensures (not_so _ _ c.if-is_table.false c.is_table.ensures)
