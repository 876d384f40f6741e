use Rattle.netlist_reader.proofs.numbered.number_of.Goals as goal
use Rattle.netlist_reader.proofs.Digits.{number_is, not_short}

pub returns-then-is_short : goal.returns-then-is_short
returns-then-is_short c = number_is _ _ (c.is_short.ensures.0 c.if-is_short.true) c.value_of.ensures

pub returns-else-is_short : goal.returns-else-is_short
returns-else-is_short c = not_short _ _ c.if-is_short.false c.is_short.ensures
