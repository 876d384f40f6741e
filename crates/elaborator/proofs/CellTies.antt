-- What is tied to the pins of a cell whose row is known, and the cell of a name.
use Rattle.std.proofs.Common.{◌+◌, take, ◌≡◌, ◌∙◌, ℕ, Option, Some, None, List, [], ◌∷◌, ◌++◌, Ok, Err, ap, get_or, length, map, refl, sym}
use Rattle.std.specs.Prelude.{option_map, slice_get}
use Rattle.std.specs.List.{enumerate_from}
use Rattle.std.specs.Option.{option_or}
use Rattle.std.proofs.lemmas.List.{length-map, map_more}
use Rattle.std.proofs.lemmas.List.FromFn.{length-enumerate_from}
use Rattle.std.proofs.lemmas.Option.{get_or_from_slice_get, slice_get-map, slice_get_within}
use Rattle.id_arena.specs.declared.keys.NetId.{NetId}
use Rattle.id_arena.specs.Names.{place_among}
use Rattle.verilog_tree.specs.declared.source.Inst.{Inst}
use Rattle.verilog_tree.specs.declared.source.Links.{Links}
use Rattle.cell_table.specs.declared.cell.Cell.{Cell}
use Rattle.cell_table.specs.Table.{names_of}
use Rattle.cell_parts.specs.declared.pins.Pin.{Pin}
use Rattle.cell_parts.specs.Pins.{pins_of}
use Rattle.cell_parts.specs.Wires.{tied_by}
use Rattle.module_nets.specs.Names.{Name}
use Rattle.flattening.specs.declared.fault.ElabFault.{ElabFault}
use Rattle.flattening.specs.declared.fault.ElabFault.TheVariants.{UnknownModule}
use Rattle.flattening.specs.declared.made.Made.{Made}
use Rattle.flattening.specs.Cells.{cell_deed, cell_piece, cell_piece_with, pin_sockets}
use Rattle.flattening.specs.Faults.{bits_here}
use Rattle.flattening.specs.Flattening.{cell_named, cell_step}
use Rattle.flattening.specs.Links.{Socket, connected, connection_tests, ties}
use Rattle.flattening.specs.Pieces.{joined, performed, room_tests}
use Rattle.flattening.specs.Places.{Given, Inside}
use Rattle.flattening.specs.Steps.{Test, first_fault, unless}
use Rattle.elaborator.specs.ReadyCells.{ready_of}
use Rattle.elaborator.specs.declared.cells.ReadyCell.{ReadyCell}
use Rattle.elaborator.proofs.Performing.{failed, first_both}

-- tests that pass leave the limits
untested : (at : ℕ) (tests : List Test) (piece made : Made) → first_fault tests ≡ None → performed at (record { tests = tests; piece = piece }) made ≡ performed at (record { tests = []; piece = piece }) made
untested at tests piece made none =
    ap (λ t. unless t (joined made piece)) (first_both tests (room_tests at made piece) ∙ ap (λ t. option_or t (first_fault (room_tests at made piece))) none)

-- each port or pin has its tie
ties_count : (g : Given) (here : Inside) (links : Links) (sockets : List Socket) → length (ties g here links sockets) ≡ length sockets
ties_count g here links sockets =
    length-map (enumerate_from 0 sockets) (λ ((k, socket) : ℕ × Socket). option_map (bits_here g here) (connected g links k socket.name))
    ∙ length-enumerate_from 0 sockets

module _ (g : Given) (here : Inside) (at : ℕ) (inst : Inst) (cell : Cell) (ready : ReadyCell) (made : Made) (is : ready ≡ ready_of cell) where
  pub ready_fault : (fault : ElabFault) → first_fault (connection_tests g here ready.sockets inst) ≡ Some fault → performed at (cell_deed g here inst cell made) made ≡ Err fault
  unfolding cell_deed
  ready_fault fault some =
      failed at (connection_tests g here (pin_sockets (pins_of cell.kind)) inst) (cell_piece g here inst cell.kind made) made fault
      (ap (λ (r : ReadyCell). first_fault (connection_tests g here r.sockets inst)) (sym is) ∙ some)

  pub ready_count : (tied : List (Option (List NetId))) → tied ≡ ties g here inst.links ready.sockets → length tied ≡ length ready.pins
  ready_count tied are =
      ap (λ (l : List (Option (List NetId))). length l) are
      ∙ ties_count g here inst.links ready.sockets
      ∙ ap (λ (r : ReadyCell). length r.sockets) is
      ∙ length-map (pins_of cell.kind) (λ (pin : Pin). record { name = pin.name; width = Some pin.width })
      ∙ ap (λ (r : ReadyCell). length r.pins) (sym is)

  pub ready_same : (tied : List (Option (List NetId))) → first_fault (connection_tests g here ready.sockets inst) ≡ None → tied ≡ ties g here inst.links ready.sockets →
      performed at (cell_deed g here inst cell made) made ≡ performed at (record { tests = []; piece = cell_piece_with g here inst cell.kind (tied_by ready.pins tied) made }) made
  unfolding cell_deed
  ready_same tied none are =
      let theirs : ties g here inst.links (pin_sockets (pins_of cell.kind)) ≡ tied = ap (λ (r : ReadyCell). ties g here inst.links r.sockets) (sym is) ∙ sym are in
      let pins : pins_of cell.kind ≡ ready.pins = ap (λ (r : ReadyCell). r.pins) (sym is) in
      untested at (connection_tests g here (pin_sockets (pins_of cell.kind)) inst) (cell_piece g here inst cell.kind made) made
      (ap (λ (r : ReadyCell). first_fault (connection_tests g here r.sockets inst)) (sym is) ∙ none)
      ∙ (λ j. performed at (record { tests = []; piece = cell_piece_with g here inst cell.kind (tied_by (pins j) (theirs j)) made }) made)

-- the name of no cell, and that of a cell
pub unknown : (g : Given) (here : Inside) (at : ℕ) (inst : Inst) (name : Name) (made : Made) → place_among (names_of g.cells) name ≡ None → cell_step g here at inst (cell_named g name) made ≡ Err (UnknownModule at)
unknown g here at inst name made none = rw none refl

pub known : (g : Given) (here : Inside) (at : ℕ) (inst : Inst) (name : Name) (made : Made) (place : ℕ) (cell : Cell) → place_among (names_of g.cells) name ≡ Some place → slice_get g.cells place ≡ Some cell → cell_step g here at inst (cell_named g name) made ≡ performed at (cell_deed g here inst cell made) made
known g here at inst name made place cell found there = rw (found, there) refl

-- the row of a cell stands at its place
pub row_at : (cells : List Cell) (rows : List ReadyCell) (place : ℕ) (cell : Cell) (ready : ReadyCell) → rows ≡ map ready_of cells → slice_get cells place ≡ Some cell → slice_get rows place ≡ Some ready → ready ≡ ready_of cell
row_at cells rows place cell ready are there row =
    let same : Some ready ≡ Some (ready_of cell) =
    sym row ∙ ap (λ (l : List ReadyCell). slice_get l place) are ∙ slice_get-map ready_of cells place ∙ ap (λ (o : Option Cell). option_map ready_of o) there
    in
    cc

-- a row more
pub row_more : (cells : List Cell) (rows new : List ReadyCell) (i : ℕ) (cell : Cell) (ready : ReadyCell) → new ≡ rows ++ ready ∷ [] → rows ≡ map ready_of (take i cells) → slice_get cells i ≡ Some cell → ready ≡ ready_of cell → new ≡ map ready_of (take (i + 1) cells)
row_more cells rows new i cell ready pushed before there is =
    let last : ready ≡ ready_of (get_or cells i cell) = is ∙ ap ready_of (sym (get_or_from_slice_get cells i cell cell there)) in
    pushed
    ∙ (λ j. before j ++ last j ∷ [])
    ∙ sym (map_more ready_of cells i cell (slice_get_within cells i cell there))
