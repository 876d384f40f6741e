-- The directions and ranges of a module's ports, as those who connect them need them.
-- The rule is told in docs/FORMATS.md, "Faults of flattening".
use Rattle.std.specs.Prelude.{ℕ, Option, Some, None, List, [], ◌∷◌, ◌++◌, flat_map, map, bytes_eq}
use Rattle.std.specs.List.{find}
use Rattle.verilog_tree.specs.declared.source.Dir.{Dir}
use Rattle.verilog_tree.specs.declared.source.IndexRange.{IndexRange}
use Rattle.verilog_tree.specs.declared.source.Item.{Item}
use Rattle.verilog_tree.specs.declared.source.Item.TheVariants as item
use Rattle.verilog_tree.specs.declared.source.Module.{Module}
use Rattle.verilog_tree.specs.declared.source.PortName.{PortName}
use Rattle.module_nets.specs.Names.{Name}
use Rattle.module_bits.specs.declared.ports.Direction.{Direction}
use Rattle.module_bits.specs.declared.ports.PortShape.{PortShape}

-- a direction with its range, given to the name at a token
abbrev pub direction : Dir → Option IndexRange → ℕ → Direction
direction dir range name = record { name = name; dir = dir; range = range }

-- a port of a header of directions has one there
abbrev pub head_directions : PortName → List Direction
head_directions port = elim port.dir [ None ↦ [] | Some dir ↦ direction dir port.range port.name ∷ [] ]

-- an item that gives a direction gives it to each of its names
abbrev pub item_directions : Item → List Direction
item_directions (item.Ports at dir range names) = map (direction dir range) names
item_directions (item.Nets at range nets) = []
item_directions (item.Supply at one range names) = []
item_directions (item.Assign at pairs) = []
item_directions (item.Gates at prims) = []
item_directions (item.Instances at insts) = []

-- all directions that a module gives, in the order of its text
abbrev pub directions : Module → List Direction
directions m = flat_map head_directions m.ports ++ flat_map item_directions m.items

-- a place of the header has the first direction that the module gives to its name, if it gives one
abbrev pub shape_of : (ℕ → Name) → List Direction → PortName → PortShape
shape_of text given port = record { name = port.name; given = find (λ d. bytes_eq (text port.name) (text d.name)) given }

-- the places of a header, in its order, whatever faults the module's declarations have
abbrev pub shapes_of : (ℕ → Name) → Module → List PortShape
shapes_of text m = map (shape_of text (directions m)) m.ports
