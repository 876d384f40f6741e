use Rattle.std.proofs.Common.{◌≡◌, ◌≤◌, ◌+◌, drop, map}
use Rattle.verilog_tree.specs.Source.{dives}
use Rattle.verilog_tree.specs.Terminal.{terminal_at}
use Rattle.verilog_tree.proofs.Dives.{Scans}
use Rattle.verilog_tree.proofs.parser.first_deep.Given as goal

abbrev pub invariant-places : goal.invariant-places
invariant-places l = Scans (map terminal_at l.tokens) l.place l.room
