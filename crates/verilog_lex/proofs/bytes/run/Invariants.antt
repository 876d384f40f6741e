-- What is counted and the run that is left are the whole run.
use Rattle.std.proofs.Common.{◌≡◌, ◌+◌, ◌-◌, ◌≤◌, length, drop}
use Rattle.verilog_lex.specs.Bytes.{run}
use Rattle.verilog_lex.proofs.bytes.run.Given as goal

abbrev pub invariant-loop-count : goal.invariant-loop-count
invariant-loop-count l = (l.count ≤ length l.text) × (l.count + run l.class (drop l.count l.text) ≡ run l.class l.text)

abbrev pub decreases-loop-count : goal.decreases-loop-count
decreases-loop-count l = length l.text - l.count
