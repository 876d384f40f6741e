-- The flattening of the top module: what all steps make, or the fault of the first that is refused.
-- The rule is told in docs/FORMATS.md, "Flattening", "Expansion" and "Faults of flattening".
use Prim.Native.Nat.{zero, suc}
use Rattle.std.specs.Prelude.{ℕ, Bool, Option, Some, None, List, [], ◌∷◌, Result, Ok, Err, codes, filter, map, option_and_then, option_map, slice_get}
use Rattle.id_arena.specs.Names.{place_among}
use Rattle.verilog_tree.specs.declared.source.Dir.{Dir}
use Rattle.verilog_tree.specs.declared.source.Inst.{Inst}
use Rattle.verilog_tree.specs.declared.source.Item.{Item}
use Rattle.verilog_tree.specs.declared.source.Item.TheVariants as item
use Rattle.verilog_tree.specs.declared.source.Module.{Module}
use Rattle.cell_table.specs.declared.cell.Cell.{Cell}
use Rattle.cell_table.specs.Table.{names_of}
use Rattle.design_core.specs.declared.parts.NetName.{NetName}
use Rattle.design_core.specs.declared.parts.Parts.{Parts}
use Rattle.design_core.specs.declared.parts.Port.{Port}
use Rattle.module_nets.specs.Names.{Name}
use Rattle.flattening.specs.declared.fault.ElabFault.{ElabFault}
use Rattle.flattening.specs.declared.fault.ElabFault.TheVariants.{NoTop, UnknownModule}
use Rattle.flattening.specs.declared.made.Made.{Made}
use Rattle.flattening.specs.Cells.{cell_deed}
use Rattle.flattening.specs.Faults.{module_tests}
use Rattle.flattening.specs.Instances.{Enter, entering, has_dir, is_input, is_output, module_steps}
use Rattle.flattening.specs.Items.{net_deed, pair_deed, supply_deed}
use Rattle.flattening.specs.Pieces.{nothing, performed}
use Rattle.flattening.specs.Places.{Given, Inside, module_names, name_in, named_bits, next_inside, start_in}
use Rattle.flattening.specs.Primitives.{op_at, primitive_deed}
use Rattle.flattening.specs.Steps.{Outcome, Step, all_steps, in_turn, tested}

-- the module of a name, with its place in the text; and the cell of a name
abbrev pub module_named : Given → Name → Option (ℕ × Module)
module_named g name =
    option_and_then (λ place. option_map (λ m. (place, m)) (slice_get g.modules place)) (place_among (module_names g) name)

-- the cell of a name
abbrev pub cell_named : Given → Name → Option Cell
cell_named g name = option_and_then (λ place. slice_get g.cells place) (place_among (names_of g.cells) name)

-- an instance, whose module or cell a token names: a module of the text comes before a cell
abbrev pub cell_step : Given → Inside → ℕ → Inst → Option Cell → Step
cell_step g here at inst None made = Err (UnknownModule at)
cell_step g here at inst (Some cell) made = performed at (cell_deed g here inst cell made) made

-- a module of the text comes before a cell; its instance gets the next scope and the next nets
abbrev pub module_or_cell_step : Option Enter → Given → Inside → ℕ → Inst → Name → Option (ℕ × Module) → Step
module_or_cell_step enter g here at inst name (Some (place, m)) made =
    module_steps enter g here at inst place (next_inside g here.around place m made) made
module_or_cell_step enter g here at inst name None made = cell_step g here at inst (cell_named g name) made

-- the instance whose module or cell a token names
unfoldable pub instance_step : Option Enter → Given → Inside → ℕ → Inst → Step
instance_step enter g here token inst made =
    module_or_cell_step enter g here (start_in g token) inst (name_in g token) (module_named g (name_in g token)) made

-- an item: its nets, pairs, primitives or instances one by one; limits stand at its first token
abbrev pub item_step : Option Enter → Given → Inside → Item → Step
item_step enter g here (item.Ports at dir range names) made = Ok made
item_step enter g here (item.Nets at range nets) made = in_turn (λ net. performed (start_in g at) (net_deed g here net)) nets made
item_step enter g here (item.Supply at one range names) made =
    in_turn (λ name. performed (start_in g at) (supply_deed g here one name)) names made
item_step enter g here (item.Assign at pairs) made =
    in_turn (λ pair. performed (start_in g at) (pair_deed g here pair)) pairs made
item_step enter g here (item.Gates at prims) made =
    in_turn (λ prim now. performed (start_in g at) (primitive_deed g here (start_in g at) (op_at g.tokens at) prim now) now) prims made
item_step enter g here (item.Instances at insts) made = in_turn (instance_step enter g here at) insts made

-- the items of an instance, in the order of the text
abbrev pub items_step : Option Enter → Given → Inside → Step
items_step enter g here = in_turn (item_step enter g here) here.module_of.items

-- the same, where so many levels may stand below
unfoldable pub expanded : ℕ → Given → Inside → Step
expanded zero g here = items_step None g here
expanded (suc room) g here = items_step (Some (expanded room g)) g here

-- the levels that may stand below the top, which is the first of 64
abbrev pub levels_below_top : ℕ
levels_below_top = 63

-- before the top is entered there are the nets 0 and 1
abbrev pub constant_name : List ℕ → NetName
constant_name name = record { scope = 0; name = name; index = None }

-- nets 0 and 1, which stand in the scope of the top
unfoldable pub constants_alone : Made
constants_alone = record nothing { net_names = constant_name (codes "1'b0") ∷ constant_name (codes "1'b1") ∷ [] }

-- the steps of a text: no module has the name of an earlier one; the top is entered; its items
abbrev pub top_steps : Given → Name → Inside → Step
top_steps g top here = all_steps (tested (module_tests g) ∷ entering g None top here ∷ expanded levels_below_top g here ∷ [])

-- the ports of the top that have a direction, in the order of the header
abbrev pub port_of : Inside → Name → Port
port_of here name = record { name = name; nets = named_bits here name }

-- the ports of one direction, in the order of the header
abbrev pub ports_with : (Dir → Bool) → Given → Inside → List Port
ports_with test g here = map (port_of here) (filter (has_dir test here) (map (λ p. name_in g p.name) here.module_of.ports))

-- the parts of the design: all that was made, and the ports of the top
abbrev pub parts_of : Given → Inside → Made → Parts
parts_of g here made =
    record {
      net_names = made.net_names;
      scopes = made.scopes;
      elements = made.elements;
      paths = made.paths;
      memories = made.memories;
      inputs = ports_with is_input g here;
      outputs = ports_with is_output g here;
    }

-- these parts, where no step is refused
abbrev pub as_parts : Given → Inside → Outcome → Result Parts ElabFault
as_parts g here (Ok made) = Ok (parts_of g here made)
as_parts g here (Err fault) = Err fault

-- the instance of the top
abbrev pub top_inside : Given → ℕ → Module → Inside
top_inside g place m = next_inside g [] place m constants_alone

-- a text without such a module has no top
abbrev pub top_parts : Given → Name → Option (ℕ × Module) → Result Parts ElabFault
top_parts g top None = Err NoTop
top_parts g top (Some (place, m)) = as_parts g (top_inside g place m) (top_steps g top (top_inside g place m) constants_alone)

-- the parts that a text stands for, or its first fault but for those of drivers
unfoldable pub flattened : Given → Name → Result Parts ElabFault
flattened g top = top_parts g top (module_named g top)
