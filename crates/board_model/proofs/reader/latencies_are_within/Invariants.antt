use Rattle.std.proofs.Common.{◌≡◌, drop}
use Rattle.std.specs.List.{list_all}
use Rattle.board_model.specs.Sound.{latency_is_within}
use Rattle.board_model.proofs.reader.latencies_are_within.Given as goal

-- the wires to come are all that can still be at fault
abbrev pub invariant-wires : goal.invariant-wires
invariant-wires l = list_all latency_is_within (drop l.wire-index l.wires) ≡ list_all latency_is_within l.wires
