-- The value so far, with the digits that are left, is that of all digits.
use Rattle.std.proofs.Common.{◌≡◌, ◌<◌, ◌^◌, drop, fold}
use Rattle.verilog_lex.specs.Numbers.{add_digit, value_of}
use Rattle.verilog_lex.proofs.number.value_of.Given as goal

abbrev pub invariant-loop-digit : goal.invariant-loop-digit
invariant-loop-digit l = (l.value < 2 ^ 128) × (fold (add_digit l.radix) l.value (drop l.digit-index l.digits) ≡ value_of l.radix l.digits)
