use Rattle.netlist_reader.proofs.HexNumbers.{none_front, none_last, none_empty, value_is}
use Rattle.netlist_reader.proofs.hex.+short_value.Goals as goal

pub returns-in_default : goal.returns-in_default
returns-in_default t c = none_front c.args.digits.now c.in-len1-up.len_at_least c.in_default.ensures

pub returns-in_default-digit_value : goal.returns-in_default-digit_value
returns-in_default-digit_value t c =
    none_last c.args.digits.now c.in-len1-up.len_at_least c.in_default-digit_value.ensures

pub returns-in-empty : goal.returns-in-empty
returns-in-empty t c = none_empty c.args.digits.now c.in-empty.len_below

pub returns-in-Some-digit_value : goal.returns-in-Some-digit_value
returns-in-Some-digit_value t c =
    value_is c.args.digits.now _ _ _ c.in-len1-up.len_at_least c.in-Some.ensures c.in-Some-digit_value.ensures c.with_digit.ensures
