use Rattle.std.proofs.Common.{◌≡◌, ◌<◌, ◌+◌, ◌^◌, length, ◌++◌}
use Rattle.result_files.specs.PlainNetlist.{gate_words}
use Rattle.result_files.specs.Taken.{Each, IsGateBelow, lines}
use Rattle.result_files.proofs.plain_netlist.take_gates.Given as goal

-- these gates were passed over
abbrev pub invariant-gates : goal.invariant-gates
invariant-gates l =
    Each (IsGateBelow l.nets) l.gates × (l.initial.rest ≡ lines gate_words l.gates ++ l.rest) × (length l.gates + length l.rest < 2 ^ 32)

abbrev pub decreases-gates : goal.decreases-gates
decreases-gates l = length l.rest
