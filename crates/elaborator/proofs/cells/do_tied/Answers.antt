use Rattle.std.proofs.Common.{◌≡◌, ◌+◌, ◌∙◌, ℕ, Some, [], ◌∷◌, ap, arith, length, min, sym}
use Rattle.cell_parts.specs.CellElements.{cell_elements, cell_memories}
use Rattle.cell_parts.specs.Wires.{tied_by}
use Rattle.flattening.specs.Pieces.{joined, nothing, words_in}
use Rattle.flattening.specs.Places.{Inside}
use Rattle.elaborator.proofs.CellPieces.{all_there, nets_full, rest_fits, rest_full, room_there}
use Rattle.elaborator.proofs.cells.do_tied.Goals as goal

pub returns-in-Some : goal.returns-in-Some
returns-in-Some c free =
    let g = c.args.setting.now in
    let here = c.args.here.now in
    let inst = c.args.inst.now in
    let kind = c.args.kind.now in
    let pins = tied_by c.args.pins.now c.args.ties in
    let made = c.args.making.now in
    let new = c.new_count-new.result in
    let inner = c.inner_count-inner.result in
    let more : c.saturating_add.result ≡ min (new + inner) 18446744073709551615 = omega (arith, c.saturating_add.ensures, c.from.ensures) in
    nets_full g here inst kind pins made c.args.at new inner c.saturating_add.result c.in-Some.fault c.new_count-new.ensures c.inner_count-inner.ensures more
    (sym c.net_fault.ensures.fault ∙ c.in-Some.is)

pub returns-in-Some-room_fault : goal.returns-in-Some-room_fault
returns-in-Some-room_fault c free =
    let g = c.args.setting.now in
    let here = c.args.here.now in
    let inst = c.args.inst.now in
    let kind = c.args.kind.now in
    let pins = tied_by c.args.pins.now c.args.ties in
    let made = c.args.making.now in
    let new = c.new_count-new.result in
    let inner = c.inner_count-inner.result in
    let scope = c.in_ok-scope.scope in
    let next = c.in_ok-next.next in
    let w = c.in_ok-wires.wires in
    let named = c.push_cell_names.new.self in
    let elements = c.element_count-elements.ensures (next + new) (length made.memories) in
    rest_full
    g here inst kind pins made scope next inner new w named c.in_ok-scope.ensures c.in_ok-next.ensures c.inner_count-inner.ensures c.new_count-new.ensures c.in_ok-wires.ensures c.in_ok-push_cell_names.ensures
    c.args.at c.element_count-elements.result c.words_of.result c.in-Some-room_fault.fault elements (c.words_of.ensures w) (sym c.room_fault.ensures ∙ c.in-Some-room_fault.is)

pub push_own_memory-requires-clause-room : goal.push_own_memory-requires-clause-room
push_own_memory-requires-clause-room c =
    let w = c.in_ok-wires.wires in
    room_there c.args.at c.element_count-elements.result c.words_of.result (words_in (cell_memories w c.args.kind.now)) c.push_cell_names.new.self c.push_scope.new.self c.push_cell_elements.new.self
    (record { parent = Some c.here.inside.scope; name = c.in_ok-from_bytes.field-0 } ∷ []) c.in_ok-scope.scope
    (cell_elements w (c.in_ok-next.next + c.new_count-new.result) (length c.push_scope.new.self.memories) c.args.kind.now)
    c.in_ok-push_scope.ensures c.in_ok-push_cell_elements.ensures (c.words_of.ensures w) (sym c.room_fault.ensures ∙ c.in_default-room_fault.is)

pub returns : goal.returns
returns c =
    let g = c.args.setting.now in
    let here = c.args.here.now in
    let inst = c.args.inst.now in
    let kind = c.args.kind.now in
    let pins = tied_by c.args.pins.now c.args.ties in
    let made = c.args.making.now in
    let new = c.new_count-new.result in
    let inner = c.inner_count-inner.result in
    let scope = c.in_ok-scope.scope in
    let next = c.in_ok-next.next in
    let w = c.in_ok-wires.wires in
    let named = c.push_cell_names.new.self in
    let elements = c.element_count-elements.ensures (next + new) (length made.memories) in
    let around = ap (λ (i : Inside). i.scope) c.here.view_is in
    let name = c.in_ok-from_bytes.ensures ∙ c.name.ensures in
    let scoped = c.in_ok-push_scope.ensures ∙ (λ j. joined named (record nothing { scopes = record { parent = Some (around j); name = name j } ∷ [] })) in
    rest_fits
    g here inst kind pins made scope next inner new w named c.in_ok-scope.ensures c.in_ok-next.ensures c.inner_count-inner.ensures c.new_count-new.ensures c.in_ok-wires.ensures c.in_ok-push_cell_names.ensures
    c.args.at c.element_count-elements.result c.words_of.result c.push_own_memory.new.making elements (c.words_of.ensures w) (sym c.room_fault.ensures ∙ c.in_default-room_fault.is)
    (all_there
    g here inst kind pins made scope next inner new w named c.in_ok-scope.ensures c.in_ok-next.ensures c.inner_count-inner.ensures c.new_count-new.ensures c.in_ok-wires.ensures c.in_ok-push_cell_names.ensures
    c.push_scope.new.self c.push_cell_elements.new.self c.push_own_memory.new.making scoped c.in_ok-push_cell_elements.ensures c.in_ok-push_own_memory.ensures)
