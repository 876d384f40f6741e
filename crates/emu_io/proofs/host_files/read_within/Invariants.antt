use Rattle.std.proofs.Common.{◌+◌, ◌-◌, ◌≤◌, length}
use Rattle.emu_io.proofs.host_files.read_within.Given as goal

abbrev pub invariant-more : goal.invariant-more
invariant-more g l = length l.bytes.items ≤ l.limit

abbrev pub decreases-more : goal.decreases-more
decreases-more g l = l.limit + 1 - length l.bytes.items
