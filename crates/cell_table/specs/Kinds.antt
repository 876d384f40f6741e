-- The cell that a JSON value says, kind by kind: one definition for each kind of cell names its
-- members, and gives None where one of them is missing or of bad shape. Nothing is judged here
-- but the shape: how long a table is, how many pins there are and whether a pin stands twice come
-- later.
-- The rule is told in docs/FORMATS.md, "The cell table".
use Rattle.std.specs.Prelude.{◌==◌, ℕ, List, length, codes, Option, Some, None, is_some, option_map, if◌then◌else◌, bytes_eq}
use Rattle.serde_json.specs.Data.{Data}
use Rattle.serde_json.specs.Find.{get, as_str}
use Rattle.json_members.specs.Members.{◌>>=◌, each, array_member, text_member, word_member}
use Rattle.json_members.specs.Names.{name_of, name_member, names_member, optional_name_member}
use Rattle.cell_table.specs.Members.{table_member, edge_pin_member, level_pin_member, optional_edge_pin_member, optional_level_pin_member}
use Rattle.cell_table.specs.declared.cell.CellRead.{CellRead}
use Rattle.cell_table.specs.declared.cell.CellWrite.{CellWrite}
use Rattle.cell_table.specs.declared.cell.EdgePin.{EdgePin}
use Rattle.cell_table.specs.declared.written.WrittenCell.{WrittenCell}
use Rattle.cell_table.specs.declared.written.WrittenFeed.{WrittenFeed}
use Rattle.cell_table.specs.declared.written.WrittenFeed.TheVariants.{Pin, Table}
use Rattle.cell_table.specs.declared.written.WrittenKind.{WrittenKind}
use Rattle.cell_table.specs.declared.written.WrittenKind.TheVariants.{Comb, Flop, Latch, GateClock, Memory}
use Rattle.cell_table.specs.declared.written.WrittenOut.{WrittenOut}
use Rattle.cell_table.specs.declared.written.WrittenState.{WrittenState}

-- an output of a combinational cell: `pin` and `table`
unfoldable pub out_of : Data → Option WrittenOut
out_of d = do
  pin ← name_member (codes "pin") d
  table ← table_member (codes "table") d
  Some (record { pin = pin; table = table })

-- the outputs in the member `outputs`
unfoldable pub outs_member : Data → Option (List WrittenOut)
outs_member d = do
  items ← array_member (codes "outputs") d
  each out_of items

-- `comb`: `inputs`, and `outputs`, of which there is one or more
unfoldable pub comb_of : Data → Option WrittenKind
comb_of d = do
  inputs ← names_member (codes "inputs") d
  outputs ← outs_member d
  if length outputs == 0 then None else Some (Comb inputs outputs)

-- a table over pins: `pins`, of which there is one or more, and `table`
unfoldable pub table_feed_of : Data → Option WrittenFeed
table_feed_of d = do
  pins ← names_member (codes "pins") d
  table ← table_member (codes "table") d
  if length pins == 0 then None else Some (Table pins table)

-- what feeds a flip-flop or a latch: a text is a pin, all else is a table over pins
unfoldable pub feed_of : Data → Option WrittenFeed
feed_of d = if is_some (as_str d) then option_map Pin (name_of d) else table_feed_of d

-- what flip-flops and latches have in common: `data`, `clear` and `preset` (optional), `q`, and
-- `qn` (optional)
unfoldable pub state_of : Data → Option WrittenState
state_of d = do
  member ← get (codes "data") d
  feed ← feed_of member
  clear ← optional_level_pin_member (codes "clear") d
  preset ← optional_level_pin_member (codes "preset") d
  q ← name_member (codes "q") d
  qn ← optional_name_member (codes "qn") d
  Some (record { feed = feed; clear = clear; preset = preset; q = q; qn = qn })

-- `flop`: `clock`, a pin with an edge, and what latches have too
unfoldable pub flop_of : Data → Option WrittenKind
flop_of d = do
  clock ← edge_pin_member (codes "clock") d
  state ← state_of d
  Some (Flop clock state)

-- `latch`: `gate`, a pin with a level, and what flip-flops have too
unfoldable pub latch_of : Data → Option WrittenKind
latch_of d = do
  gate ← level_pin_member (codes "gate") d
  state ← state_of d
  Some (Latch gate state)

-- `gate_clock`: `clock`, `enable`, `test` (optional) and `output`
unfoldable pub gate_clock_of : Data → Option WrittenKind
gate_clock_of d = do
  clock ← name_member (codes "clock") d
  enable ← name_member (codes "enable") d
  test ← optional_name_member (codes "test") d
  output ← name_member (codes "output") d
  Some (GateClock clock enable test output)

-- the `address` of a port: absent exactly where the memory has no address bits
unfoldable pub address_of : ℕ → Data → Option (Option (List ℕ))
address_of address_bits d =
    if address_bits == 0
    then (if is_some (get (codes "address") d) then None else Some None)
    else option_map Some (name_member (codes "address") d)

-- a write port: `clock`, a pin with an edge, `enable` (optional), `address` and `data`
unfoldable pub write_of : ℕ → Data → Option CellWrite
write_of address_bits d = do
  clock ← edge_pin_member (codes "clock") d
  enable ← optional_level_pin_member (codes "enable") d
  address ← address_of address_bits d
  feed ← name_member (codes "data") d
  Some (record { clock = clock; enable = enable; address = address; feed = feed })

-- the write ports in the member `writes`
unfoldable pub writes_member : ℕ → Data → Option (List CellWrite)
writes_member address_bits d = do
  items ← array_member (codes "writes") d
  each (write_of address_bits) items

-- the `clock` of a read port, a pin with an edge (optional); before version 2 no port has one, whatever
-- stands there
unfoldable pub read_clock_of : ℕ → Data → Option (Option EdgePin)
read_clock_of version d = if version == 2 then optional_edge_pin_member (codes "clock") d else Some None

-- a read port: `clock` (optional), `address` and `data`
unfoldable pub read_of : ℕ → ℕ → Data → Option CellRead
read_of version address_bits d = do
  clock ← read_clock_of version d
  address ← address_of address_bits d
  bits ← name_member (codes "data") d
  Some (record { clock = clock; address = address; bits = bits })

-- the read ports in the member `reads`
unfoldable pub reads_member : ℕ → ℕ → Data → Option (List CellRead)
reads_member version address_bits d = do
  items ← array_member (codes "reads") d
  each (read_of version address_bits) items

-- `memory`: `address_bits`, `width`, and the lists `writes` and `reads`
unfoldable pub memory_of : ℕ → Data → Option WrittenKind
memory_of version d = do
  address_bits ← word_member (codes "address_bits") d
  width ← word_member (codes "width") d
  writes ← writes_member address_bits d
  reads ← reads_member version address_bits d
  Some (Memory address_bits width writes reads)

-- the kind of this name, in a table of this version
unfoldable pub named_kind_of : ℕ → List ℕ → Data → Option WrittenKind
named_kind_of version kind d =
    if bytes_eq kind (codes "comb") then comb_of d
    else (if bytes_eq kind (codes "flop") then flop_of d
    else (if bytes_eq kind (codes "latch") then latch_of d
    else (if bytes_eq kind (codes "gate_clock") then gate_clock_of d
    else (if bytes_eq kind (codes "memory") then memory_of version d else None))))

-- a cell in a table of this version: `name`, `kind`, and the members of that kind
unfoldable pub written_of : ℕ → Data → Option WrittenCell
written_of version d = do
  name ← name_member (codes "name") d
  text ← text_member (codes "kind") d
  kind ← named_kind_of version text d
  Some (record { name = name; kind = kind })
