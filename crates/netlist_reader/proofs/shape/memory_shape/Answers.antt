use Rattle.std.proofs.Common.{rules}
use Rattle.netlist_reader.proofs.Stucks.{not_so}
use Rattle.netlist_reader.proofs.MemoryNames.{no_second, no_third, no_fourth, not_possible}
use Rattle.netlist_reader.proofs.shape.memory_shape.Goals as goal

pub returns-in_default-number_before-2 : goal.returns-in_default-number_before-2
returns-in_default-number_before-2 c =
    no_second _ _ _ _ (search rules) c.in-Some.ensures c.in-Some-number_before.ensures c.in_default-number_before-2.ensures

pub returns-in_default-number_before-3 : goal.returns-in_default-number_before-3
returns-in_default-number_before-3 c =
    no_third _ _ _ _ _ _ (search rules) (search rules) c.in-Some.ensures c.in-Some-number_before.ensures c.in-Some-number_before-2.ensures c.in_default-number_before-3.ensures

pub returns-in_default-number_of : goal.returns-in_default-number_of
returns-in_default-number_of c =
    no_fourth _ _ _ _ _ _ _ _ (search rules) (search rules) (search rules) c.in-Some.ensures c.in-Some-number_before.ensures c.in-Some-number_before-2.ensures c.in-Some-number_before-3.ensures
    c.in_default-number_of.ensures

pub returns-else-is_possible : goal.returns-else-is_possible
returns-else-is_possible c =
    not_possible _ _ _ _ _ _ _ _ _ (search rules) (search rules) (search rules) (search rules) c.in-Some.ensures c.in-Some-number_before.ensures c.in-Some-number_before-2.ensures
    c.in-Some-number_before-3.ensures c.in-Some-number_of.ensures (not_so _ _ c.if-is_possible.false c.is_possible.ensures)
