use Rattle.netlist_reader.proofs.HexNumbers.{too_long}
use Rattle.netlist_reader.proofs.hex.hex_value.Goals as goal

pub returns-then-digits-gt16 : goal.returns-then-digits-gt16
returns-then-digits-gt16 c = too_long c.args.digits.now c.if-digits-gt16.true
