use Rattle.std.proofs.Common.{◌+◌, ◌≤◌, length, option_copied}
use Rattle.domain_groups.specs.Lines.{event_lines}
use Rattle.event_replay.specs.Events.{AreEarlier}
use Rattle.event_replay.proofs.Told.{Telling, lines_left, bytes_left}
use Rattle.event_replay.proofs.events.read_lines.Given as goal

abbrev pub invariant-lines : goal.invariant-lines
invariant-lines l =
    Telling l.groups l.ports (event_lines l.bytes) (lines_left l.number (option_copied l.rest)) l.events
    × AreEarlier l.ports l.last_lines (l.number + 1)
    × (l.number + bytes_left (option_copied l.rest) ≤ length l.bytes + 1)

abbrev pub decreases-lines : goal.decreases-lines
decreases-lines l = bytes_left (option_copied l.rest)
