use Rattle.std.proofs.Common.{map, take}
use Rattle.module_nets.specs.Names.{text_of}
use Rattle.module_bits.specs.Noted.{Notes}
use Rattle.module_bits.specs.Ports.{direction}
use Rattle.module_bits.proofs.ports.note_names.Given as goal

abbrev pub invariant-names : goal.invariant-names
invariant-names l = Notes (text_of l.source l.tokens) l.initial.given l.given (map (direction l.dir l.range) (take l.name-index l.names))
