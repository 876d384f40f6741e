use Rattle.std.proofs.Common.{◌≡◌, ◌++◌, length, drop}
use Rattle.design_core.specs.Design.{port_bits}
use Rattle.domain_groups.specs.Traces.{ports_text}
use Rattle.event_replay.proofs.trace.push_ports.Given as goal

abbrev pub invariant-ports : goal.invariant-ports
invariant-ports l = (l.line.items ++ ports_text (drop l.port-index l.ports) l.rest ≡ l.initial.line.items ++ ports_text l.ports l.bits) × (length l.rest ≡ length (port_bits (drop l.port-index l.ports)))
