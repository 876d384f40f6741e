use Rattle.std.proofs.Common.{take}
use Rattle.std.specs.Prelude.{flat_map}
use Rattle.module_nets.specs.Names.{text_of}
use Rattle.module_bits.specs.Noted.{Notes}
use Rattle.module_bits.specs.Ports.{head_directions}
use Rattle.module_bits.proofs.ports.note_header.Given as goal

abbrev pub invariant-ports : goal.invariant-ports
invariant-ports l = Notes (text_of l.source l.tokens) l.initial.given l.given (flat_map head_directions (take l.port-index l.ports))
