-- The elements of cells that are combinational, and of clock gates.
-- The rule is told in docs/FORMATS.md, "Cells".
use Rattle.std.specs.Prelude.{◌+◌, ℕ, false, Option, Some, None, List, [], ◌∷◌, map}
use Rattle.id_arena.specs.declared.keys.NetId.{NetId}
use Rattle.cell_table.specs.declared.cell.CombOut.{CombOut}
use Rattle.design_core.specs.declared.element.Element.{Element}
use Rattle.design_core.specs.declared.element.Element.TheVariants as element
use Rattle.design_core.specs.declared.operation.Op.TheVariants.{And, Or, Table}
use Rattle.cell_parts.specs.Wires.{Wires, net_numbered, pin_at}

-- a table over pins, with this output
abbrev pub table_gate : Wires → List (List ℕ) → ℕ → NetId → Element
table_gate w pins table output = element.Gate (Table table) (map (pin_at w) pins) output

-- a combinational cell: one table gate for each output, over all inputs
abbrev pub comb_elements : Wires → List (List ℕ) → List CombOut → List Element
comb_elements w inputs outputs = map (λ out. table_gate w inputs out.table (pin_at w out.pin)) outputs

-- a clock gate has one inner net, the output of its latch, or, where it has a test, another one before it
abbrev pub clock_inner : Option (List ℕ) → ℕ
clock_inner None = 1
clock_inner (Some test) = 2

-- its latch is open while the clock is 0
abbrev pub clock_latch : Wires → List ℕ → NetId → NetId → Element
clock_latch w clock value q =
    element.Latch (record { gate = record { net = pin_at w clock; high = false }; feed = value; clear = None; preset = None; q = q })

-- an `and` of what the latch drives and of the clock
abbrev pub clock_output : Wires → List ℕ → NetId → List ℕ → Element
clock_output w clock q output = element.Gate And (q ∷ pin_at w clock ∷ []) (pin_at w output)

-- without a test the latch takes the enable; with one, an `or` of enable and test
abbrev pub clock_elements : Wires → ℕ → List ℕ → List ℕ → Option (List ℕ) → List ℕ → List Element
clock_elements w inner clock enable None output =
    clock_latch w clock (pin_at w enable) (net_numbered inner) ∷ clock_output w clock (net_numbered inner) output ∷ []
clock_elements w inner clock enable (Some test) output =
    element.Gate Or (pin_at w enable ∷ pin_at w test ∷ []) (net_numbered inner)
    ∷ clock_latch w clock (net_numbered inner) (net_numbered (inner + 1))
    ∷ clock_output w clock (net_numbered (inner + 1)) output
    ∷ []
