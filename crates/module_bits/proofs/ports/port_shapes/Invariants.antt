use Rattle.std.proofs.Common.{◌≡◌, map, take}
use Rattle.module_nets.specs.Names.{text_of}
use Rattle.module_bits.specs.Ports.{directions, shape_of}
use Rattle.module_bits.proofs.ports.port_shapes.Given as goal

abbrev pub invariant-ports : goal.invariant-ports
invariant-ports l = l.shapes ≡ map (shape_of (text_of l.source l.tokens) (directions l.module)) (take l.port-index l.module.ports)
