use Rattle.std.proofs.Common.{List, subst}
use Rattle.std.specs.Prelude.{flat_map}
use Rattle.verilog_tree.specs.declared.source.Item.{Item}
use Rattle.verilog_tree.specs.declared.source.PortName.{PortName}
use Rattle.module_nets.specs.Names.{text_of}
use Rattle.module_bits.specs.declared.ports.Given.{Given}
use Rattle.module_bits.specs.Noted.{Notes}
use Rattle.module_bits.specs.Ports.{head_directions, item_directions}
use Rattle.module_bits.proofs.Noting.{given_is}
use Rattle.module_bits.proofs.ports.given_by.Goals as goal

pub returns : goal.returns
returns c =
    let text = text_of c.args.source.now c.args.tokens.now in
    let old : Given = record { names = c.new.result; firsts = c.new-2.result } in
    let b = c.note_header.new.given in
    given_is text c.args.module.now c.new.result c.new-2.result b c.note_items.new.given c.new.ensures c.new-2.ensures
    (subst {A = List PortName} (λ l. Notes text old b (flat_map head_directions l)) c.as_slice.ensures c.in_ok-note_header.ensures)
    (subst {A = List Item} (λ l. Notes text b c.note_items.new.given (flat_map item_directions l)) c.as_slice-2.ensures c.in_ok-note_items.ensures)
