use Rattle.std.proofs.Common.{◌≡◌, ◌++◌, ◌≤◌, length}
use Rattle.design_core.specs.Operation.{number}
use Rattle.domain_groups.specs.Traces.{digit_count, hex_text}
use Rattle.event_replay.proofs.trace.push_value.Given as goal

abbrev pub invariant-digits : goal.invariant-digits
invariant-digits l = (l.line.items ++ hex_text l.after (number l.bits) ≡ l.initial.line.items ++ hex_text (digit_count (length l.bits)) (number l.bits)) × (l.after ≤ digit_count (length l.bits))

abbrev pub decreases-digits : goal.decreases-digits
decreases-digits l = l.after
