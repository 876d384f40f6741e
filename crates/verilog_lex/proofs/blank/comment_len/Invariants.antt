-- The bytes passed and the comment that is left are the whole comment.
use Rattle.std.proofs.Common.{◌≡◌, ◌+◌, ◌-◌, ◌≤◌, length, drop, option_map}
use Rattle.verilog_lex.specs.Blanks.{comment_len}
use Rattle.verilog_lex.proofs.blank.comment_len.Given as goal

abbrev pub invariant-loop-at : goal.invariant-loop-at
invariant-loop-at l = (l.at ≤ length l.text) × (option_map (λ n. n + l.at) (comment_len (drop l.at l.text)) ≡ comment_len l.text)

abbrev pub decreases-loop-at : goal.decreases-loop-at
decreases-loop-at l = length l.text - l.at
