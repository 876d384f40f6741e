use Rattle.std.proofs.Common.{rules}
use Rattle.module_nets.specs.Names.{text_of}
use Rattle.module_bits.specs.Ports.{head_directions}
use Rattle.module_bits.proofs.Noting.{notes_next}
use Rattle.module_bits.proofs.ports.note_header.Goals as goal

pub ports-preserved : goal.ports-preserved
ports-preserved c =
    notes_next (text_of c.args.source.now c.args.tokens.now) head_directions c.args.ports.now c.ports.port-index _ c.args.given.now c.ports.given c.note_port.new.given (search rules) c.ports.invariant c.in_ok-note_port.ensures
