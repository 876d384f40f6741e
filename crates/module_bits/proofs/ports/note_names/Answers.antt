use Rattle.std.proofs.Common.{rules}
use Rattle.module_nets.specs.Names.{text_of}
use Rattle.module_bits.specs.Ports.{direction}
use Rattle.module_bits.proofs.Noting.{notes_next_name}
use Rattle.module_bits.proofs.ports.note_names.Goals as goal

pub names-preserved : goal.names-preserved
names-preserved c =
    notes_next_name (text_of c.args.source.now c.args.tokens.now) (direction c.args.dir c.args.range) c.args.names.now c.names.name-index _ c.args.given.now c.names.given c.note.new.given (search rules) c.names.invariant c.in_ok-note.ensures
