use Rattle.std.proofs.Common.{rules, subst}
use Rattle.verilog_tree.specs.declared.source.Item.{Item}
use Rattle.module_nets.specs.Names.{text_of}
use Rattle.module_bits.specs.Noted.{Notes}
use Rattle.module_bits.specs.Ports.{item_directions}
use Rattle.module_bits.proofs.Noting.{notes_next}
use Rattle.module_bits.proofs.ports.note_items.Goals as goal

pub items-preserved : goal.items-preserved
items-preserved c =
    let text = text_of c.args.source.now c.args.tokens.now in
    notes_next text item_directions c.args.items.now c.items.item-index c.item-item.result c.args.given.now c.items.given c.note_item.new.given (search rules) c.items.invariant
    (subst {A = Item} (λ item. Notes text c.items.given c.note_item.new.given (item_directions item)) c.item-item.is c.in_ok-note_item.ensures)
