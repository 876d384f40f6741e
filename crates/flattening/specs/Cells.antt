-- What an instance of a cell makes.
-- The rule is told in docs/FORMATS.md, "Cells" and "Names and paths".
use Rattle.std.specs.Prelude.{◌+◌, Some, List, [], ◌∷◌, ◌++◌, flat_map, length, map}
use Rattle.verilog_tree.specs.declared.source.Inst.{Inst}
use Rattle.cell_table.specs.declared.cell.Cell.{Cell}
use Rattle.cell_table.specs.declared.cell.CellKind.{CellKind}
use Rattle.cell_parts.specs.declared.pins.Pin.{Pin}
use Rattle.cell_parts.specs.CellElements.{cell_elements, cell_memories, inner_count}
use Rattle.cell_parts.specs.Pins.{pins_of}
use Rattle.cell_parts.specs.Wires.{TiedPin, inner_names, new_count, new_names, tied_by, wires_of}
use Rattle.flattening.specs.declared.made.Made.{Made}
use Rattle.flattening.specs.Links.{Socket, connection_tests, ties}
use Rattle.flattening.specs.Pieces.{Deed, elements_in}
use Rattle.flattening.specs.Places.{Given, Inside, name_in}

-- a pin is connected as a port is, and always has a width
abbrev pub pin_sockets : List Pin → List Socket
pin_sockets pins = map (λ pin. record { name = pin.name; width = Some pin.width }) pins

-- the pins with what is connected to them
abbrev pub tied_pins : Given → Inside → Inst → CellKind → List TiedPin
tied_pins g here inst kind = tied_by (pins_of kind) (ties g here inst.links (pin_sockets (pins_of kind)))

-- a cell with these pins: it gets the next scope, new nets for its pins, and then its inner nets
abbrev pub cell_piece_with : Given → Inside → Inst → CellKind → List TiedPin → Made → Made
cell_piece_with g here inst kind pins made =
    record (elements_in (length made.scopes)
    (cell_elements (wires_of (length made.net_names) pins) (length made.net_names + new_count pins) (length made.memories) kind)) {
      net_names = flat_map (new_names (length made.scopes)) pins ++ inner_names (length made.scopes) (inner_count kind);
      scopes = record { parent = Some here.scope; name = name_in g inst.name } ∷ [];
      memories = cell_memories (wires_of (length made.net_names) pins) kind;
    }

-- the piece of an instance of a cell
abbrev pub cell_piece : Given → Inside → Inst → CellKind → Made → Made
cell_piece g here inst kind made = cell_piece_with g here inst kind (tied_pins g here inst kind) made

-- the deed of an instance of a cell: its connections are right, and its piece is there
unfoldable pub cell_deed : Given → Inside → Inst → Cell → Made → Deed
cell_deed g here inst cell made =
    record {
      tests = connection_tests g here (pin_sockets (pins_of cell.kind)) inst;
      piece = cell_piece g here inst cell.kind made;
    }
