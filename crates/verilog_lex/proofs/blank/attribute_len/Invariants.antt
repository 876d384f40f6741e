-- The bytes passed and the attribute that is left are the whole attribute.
use Rattle.std.proofs.Common.{◌≡◌, ◌+◌, ◌-◌, ◌≤◌, length, drop, option_map, false}
use Rattle.verilog_lex.specs.Blanks.{attribute_len}
use Rattle.verilog_lex.proofs.blank.attribute_len.Given as goal

abbrev pub invariant-loop-at : goal.invariant-loop-at
invariant-loop-at l = (l.at ≤ length l.text + 1) × (option_map (λ n. n + l.at) (attribute_len l.quoted (drop l.at l.text)) ≡ attribute_len false l.text)

abbrev pub decreases-loop-at : goal.decreases-loop-at
decreases-loop-at l = length l.text - l.at
