use Rattle.std.proofs.Common.{◌≡◌, ◌++◌, drop, map}
use Rattle.std.specs.List.{enumerate_from}
use Rattle.design_core.specs.Operation.{bit_of}
use Rattle.event_replay.specs.Values.{hex_number, shown_bits}
use Rattle.event_replay.proofs.values.push_bits.Given as goal

abbrev pub invariant-bits : goal.invariant-bits
invariant-bits l =
    l.values ++ map (λ (k, net). record { net = net; value = bit_of (hex_number l.digits) k }) (enumerate_from l.place (drop l.place l.nets))
    ≡ l.initial.values ++ shown_bits l.nets (hex_number l.digits)
