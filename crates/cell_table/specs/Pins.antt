-- The pins that a cell names, and whether one of them stands twice. The ports of a memory may share a
-- clock pin in version 2, so their clocks stand apart from the other pins.
-- The rule is told in docs/FORMATS.md, "The cell table".
use Rattle.std.specs.Prelude.{ℕ, List, [], ◌∷◌, ◌++◌, ◌==◌, ◌||◌, Bool, false, not, filter, map, flat_map, if◌then◌else◌, Option, Some, None, bytes_eq}
use Rattle.std.specs.List.{list_any}
use Rattle.cell_table.specs.declared.cell.CellRead.{CellRead}
use Rattle.cell_table.specs.declared.cell.CellWrite.{CellWrite}
use Rattle.cell_table.specs.declared.cell.EdgePin.{EdgePin}
use Rattle.cell_table.specs.declared.cell.LevelPin.{LevelPin}
use Rattle.cell_table.specs.declared.written.WrittenFeed.{WrittenFeed}
use Rattle.cell_table.specs.declared.written.WrittenFeed.TheVariants.{Pin, Table}
use Rattle.cell_table.specs.declared.written.WrittenKind.{WrittenKind}
use Rattle.cell_table.specs.declared.written.WrittenKind.TheVariants.{Comb, Flop, Latch, GateClock, Memory}
use Rattle.cell_table.specs.declared.written.WrittenOut.{WrittenOut}
use Rattle.cell_table.specs.declared.written.WrittenState.{WrittenState}

-- a pin that may be left out
abbrev pub name_pins : Option (List ℕ) → List (List ℕ)
name_pins None = []
name_pins (Some pin) = pin ∷ []

-- a pin with a level that may be left out
abbrev pub level_pins : Option LevelPin → List (List ℕ)
level_pins None = []
level_pins (Some level) = level.pin ∷ []

-- a pin with an edge that may be left out
abbrev pub edge_pins : Option EdgePin → List (List ℕ)
edge_pins None = []
edge_pins (Some edge) = edge.pin ∷ []

-- the pins that are not `q`
abbrev pub others : List ℕ → List (List ℕ) → List (List ℕ)
others q pins = filter (λ pin. not (bytes_eq pin q)) pins

-- the pins of what feeds a flip-flop or a latch; its own output `q` may stand there besides
abbrev pub feed_pins : List ℕ → WrittenFeed → List (List ℕ)
feed_pins q (Pin pin) = others q (pin ∷ [])
feed_pins q (Table pins table) = others q pins

-- the pins of a flip-flop but for its clock, and of a latch but for its gate
unfoldable pub state_pins : WrittenState → List (List ℕ)
state_pins s = s.q ∷ name_pins s.qn ++ feed_pins s.q s.feed ++ level_pins s.clear ++ level_pins s.preset

-- the pins of a write port but for its clock
unfoldable pub write_pins : CellWrite → List (List ℕ)
write_pins w = level_pins w.enable ++ name_pins w.address ++ w.feed ∷ []

-- the pins of a read port but for its clock
unfoldable pub read_pins : CellRead → List (List ℕ)
read_pins r = name_pins r.address ++ r.bits ∷ []

-- the clock pins of write ports and of read ports
abbrev pub clock_pins : List CellWrite → List CellRead → List (List ℕ)
clock_pins writes reads = map (λ w. w.clock.pin) writes ++ flat_map (λ r. edge_pins r.clock) reads

-- the pins of an output
abbrev pub out_pins : WrittenOut → List (List ℕ)
out_pins out = out.pin ∷ []

-- the clock pins that ports may share: those of a memory's ports in version 2
unfoldable pub shared_pins : ℕ → WrittenKind → List (List ℕ)
shared_pins version (Comb inputs outputs) = []
shared_pins version (Flop clock state) = []
shared_pins version (Latch gate state) = []
shared_pins version (GateClock clock enable test output) = []
shared_pins version (Memory address_bits width writes reads) = if version == 2 then clock_pins writes reads else []

-- the clock pins that ports may not share
abbrev pub own_clock_pins : ℕ → List CellWrite → List CellRead → List (List ℕ)
own_clock_pins version writes reads = if version == 2 then [] else clock_pins writes reads

-- all pins of a cell but for those that ports may share
unfoldable pub pins_of : ℕ → WrittenKind → List (List ℕ)
pins_of version (Comb inputs outputs) = flat_map out_pins outputs ++ inputs
pins_of version (Flop clock state) = clock.pin ∷ state_pins state
pins_of version (Latch gate state) = gate.pin ∷ state_pins state
pins_of version (GateClock clock enable test output) = output ∷ clock ∷ enable ∷ name_pins test
pins_of version (Memory address_bits width writes reads) =
    flat_map write_pins writes ++ flat_map read_pins reads ++ own_clock_pins version writes reads

-- whether a pin stands twice
abbrev pub has_twice : List (List ℕ) → Bool
has_twice [] = false
has_twice (pin ∷ pins) = list_any (bytes_eq pin) pins || has_twice pins

-- whether a pin of a cell stands twice: among those that are not shared, or as a shared one and as
-- another
abbrev pub stands_twice : List (List ℕ) → List (List ℕ) → Bool
stands_twice pins shared = has_twice pins || list_any (λ pin. list_any (bytes_eq pin) pins) shared
