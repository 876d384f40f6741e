use Rattle.std.proofs.Common.{◌≡◌, ◌++◌, drop, false, get_or, length, map}
use Rattle.std.specs.Prelude.{IsTrue}
use Rattle.design_core.specs.Design.{port_bits}
use Rattle.design_core.specs.Faults.{are_there}
use Rattle.event_replay.proofs.settling.output_bits.Given as goal

abbrev pub invariant-ports : goal.invariant-ports
invariant-ports l =
    (l.bits.items ++ map (λ net. get_or l.values net.place false) (port_bits (drop l.port-index l.outputs)) ≡ map (λ net. get_or l.values net.place false) (port_bits l.outputs))
    × IsTrue (are_there (length l.values) (port_bits (drop l.port-index l.outputs)))
