-- A value that passes the bound on the way passes it in the end.
use Rattle.std.proofs.Common.{arith}
use Rattle.verilog_lex.proofs.Values.{value_of-overflow}
use Rattle.verilog_lex.proofs.number.value_of.Goals as goal

pub returns-in_default : goal.returns-in_default
returns-in_default c = value_of-overflow c.args.base c.radix_of-radix.result c.loop-digit.value c.loop-digit.digit-index c.args.digits.now c.radix_of-radix.ensures (omega arith) c.loop-digit.invariant.1 c.in_default.ensures
