use Rattle.std.proofs.Common.{take}
use Rattle.std.specs.Prelude.{flat_map}
use Rattle.module_nets.specs.Names.{text_of}
use Rattle.module_bits.specs.Noted.{Notes}
use Rattle.module_bits.specs.Ports.{item_directions}
use Rattle.module_bits.proofs.ports.note_items.Given as goal

abbrev pub invariant-items : goal.invariant-items
invariant-items l = Notes (text_of l.source l.tokens) l.initial.given l.given (flat_map item_directions (take l.item-index l.items))
