-- Worked examples, by which a misreading of the definitions would show.
-- The rule is told in docs/FORMATS.md, "Names and widths", "Cells" and "Names and paths".
use Rattle.std.specs.Prelude.{◌≡◌, ◌+◌, ℕ, true, false, Option, Some, None, List, [], ◌∷◌, ◌++◌, codes, flat_map, map}
use Rattle.id_arena.specs.declared.keys.NetId.{NetId}
use Rattle.cell_table.specs.declared.cell.CellKind.{CellKind}
use Rattle.cell_table.specs.declared.cell.CellKind.TheVariants.{Flop, GateClock, Memory}
use Rattle.cell_table.specs.declared.cell.FeedPin.TheVariants.{Table}
use Rattle.design_core.specs.declared.element.Element.{Element}
use Rattle.design_core.specs.declared.element.Element.TheVariants as element
use Rattle.design_core.specs.declared.operation.Op.TheVariants as op
use Rattle.module_bits.specs.Bits.{net_at}
use Rattle.cell_parts.specs.CellElements.{cell_elements, inner_count}
use Rattle.cell_parts.specs.Pins.{pins_of}
use Rattle.cell_parts.specs.Wires.{TiedPin, inner_names, new_count, new_names, tied_by, wires_of}
use Rattle.flattening.specs.Places.{indices}
use Rattle.flattening.specs.Primitives.{gates_of}

-- the bits of `[1:0]` and of `[0:1]`: the index on the right is that of bit 0
abbrev pub RangesFromTheRight : Type 0
RangesFromTheRight =
    (indices (Some (record { left = 1; right = 0 })) ≡ Some 0 ∷ Some 1 ∷ []) × (indices (Some (record { left = 0; right = 1 })) ≡ Some 1 ∷ Some 0 ∷ [])

-- `and(y,a,b)` is one gate to `y`; `not(y,z,a)` is two gates from `a`
abbrev pub PrimitivesHaveOutputsFirst : Type 0
PrimitivesHaveOutputsFirst =
    (gates_of op.And (net_at 2 ∷ net_at 3 ∷ net_at 4 ∷ []) ≡ element.Gate op.And (net_at 3 ∷ net_at 4 ∷ []) (net_at 2) ∷ [])
    × (gates_of op.Not (net_at 2 ∷ net_at 3 ∷ net_at 4 ∷ []) ≡ element.Gate op.Not (net_at 4 ∷ []) (net_at 2) ∷ element.Gate op.Not (net_at 4 ∷ []) (net_at 3) ∷ [])

-- the pins of a cell, with these nets tied to them in order
abbrev pub tied_to : CellKind → List (Option (List NetId)) → List TiedPin
tied_to kind ties = tied_by (pins_of kind) ties

-- its elements, where the next net has this number; and the names of its new nets in scope 1
abbrev pub elements_at : ℕ → CellKind → List TiedPin → List Element
elements_at next kind pins = cell_elements (wires_of next pins) (next + new_count pins) 0 kind

-- a clock gate whose output is tied to net 2 and whose clock is tied to net 3, with 4 as the next net: its enable gets
-- net 4, and its latch drives net 5
abbrev pub clock_gate : CellKind
clock_gate = GateClock (codes "CK") (codes "E") None (codes "GCK")

-- its pins, in order: output, clock, enable
abbrev pub clock_gate_pins : List TiedPin
clock_gate_pins = tied_to clock_gate (Some (net_at 2 ∷ []) ∷ Some (net_at 3 ∷ []) ∷ None ∷ [])

-- a latch that is open while the clock is 0, and an `and`; the new nets are the enable and an inner net
abbrev pub ClockGateMakes : Type 0
ClockGateMakes =
    (elements_at 4 clock_gate clock_gate_pins
    ≡ element.Latch (record { gate = record { net = net_at 3; high = false }; feed = net_at 4; clear = None; preset = None; q = net_at 5 })
    ∷ element.Gate op.And (net_at 5 ∷ net_at 3 ∷ []) (net_at 2)
    ∷ [])
    × (flat_map (new_names 1) clock_gate_pins ++ inner_names 1 (inner_count clock_gate)
    ≡ record { scope = 1; name = codes "E"; index = None } ∷ record { scope = 1; name = codes "$"; index = None } ∷ [])

-- a flip-flop whose data is a table over `D` and its own output, which is tied to net 2; its clock is tied to net 3, and all
-- else to nothing: `QN` gets no net and has no gate, `D` gets net 4, and the table drives net 5
abbrev pub own_flop : CellKind
own_flop =
    Flop (record { pin = codes "CK"; rise = true }) (Table (codes "D" ∷ codes "Q" ∷ []) 6) None None (codes "Q") (Some (codes "QN"))

-- a table gate and the flip-flop
abbrev pub OwnFlopMakes : Type 0
OwnFlopMakes =
    elements_at 4 own_flop (tied_to own_flop (Some (net_at 2 ∷ []) ∷ None ∷ Some (net_at 3 ∷ []) ∷ None ∷ []))
    ≡ element.Gate (op.Table 6) (net_at 4 ∷ net_at 2 ∷ []) (net_at 5)
    ∷ element.Flop (record { clock = net_at 3; rise = true; feed = net_at 5; clear = None; preset = None; q = net_at 2 })
    ∷ []

-- the pins of a memory whose ports share a clock: it is one pin, at its first place
abbrev pub shared_memory : CellKind
shared_memory =
    Memory 0 2
    (record { clock = record { pin = codes "CK"; rise = true }; enable = None; address = None; feed = codes "D" } ∷ [])
    (record { clock = Some (record { pin = codes "CK"; rise = true }); address = None; bits = codes "R" } ∷ [])

-- so it has three pins
abbrev pub SharedClockIsOnePin : Type 0
SharedClockIsOnePin = map (λ pin. pin.name) (pins_of shared_memory) ≡ codes "CK" ∷ codes "D" ∷ codes "R" ∷ []

-- all of them
abbrev pub ExamplesHold : Type 0
ExamplesHold = RangesFromTheRight × PrimitivesHaveOutputsFirst × ClockGateMakes × OwnFlopMakes × SharedClockIsOnePin
