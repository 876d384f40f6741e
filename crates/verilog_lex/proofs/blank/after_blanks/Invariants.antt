-- What is left has the same text after its blanks.
use Rattle.std.proofs.Common.{◌≡◌, ◌≤◌, length}
use Rattle.verilog_lex.specs.Blanks.{after_blanks}
use Rattle.verilog_lex.proofs.blank.after_blanks.Given as goal

abbrev pub invariant-loop-bytes : goal.invariant-loop-bytes
invariant-loop-bytes l = (length l.rest ≤ length l.text) × (after_blanks 0 l.rest ≡ after_blanks 0 l.text)

abbrev pub decreases-loop-bytes : goal.decreases-loop-bytes
decreases-loop-bytes l = length l.rest
