use Rattle.std.proofs.Common.{◌≡◌, length}
use Rattle.cell_parts.specs.CellElements.{cell_elements}
use Rattle.elaborator.proofs.CellPieces.{elements_put}
use Rattle.elaborator.proofs.making.Making.push_cell_elements.Goals as goal

pub returns : goal.returns
returns c =
    let number : c.in_ok-memory.memory ≡ length c.args.self.now.memories = c.in_ok-memory.ensures in
    elements_put c.self.inside.made c.args.self.now c.args.scope c.element_count.result c.in_ok-memory.memory
    (λ memory. cell_elements c.args.wires.now c.args.inner memory c.args.kind.now) c.push_elements.new.out c.push_paths.new.ends
    c.self.view_is number c.in_ok-push_elements.ensures (c.element_count.ensures c.args.inner c.in_ok-memory.memory) c.in_ok-push_paths.ensures
