use Rattle.std.proofs.Common.{◌≡◌, length}
use Rattle.domain_groups.specs.Lines.{without_returns}
use Rattle.event_replay.proofs.lines.strip_returns.Given as goal

abbrev pub invariant-returns : goal.invariant-returns
invariant-returns l = without_returns l.rest ≡ without_returns l.line

abbrev pub decreases-returns : goal.decreases-returns
decreases-returns l = length l.rest
