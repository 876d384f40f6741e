-- What an instance of a cell makes, of its nets: inner nets, elements, and memories.
-- The rule is told in docs/FORMATS.md, "Cells".
use Rattle.std.specs.Prelude.{ℕ, List, [], ◌∷◌}
use Rattle.cell_table.specs.declared.cell.CellKind.{CellKind}
use Rattle.cell_table.specs.declared.cell.CellKind.TheVariants.{Comb, Flop, Latch, GateClock, Memory}
use Rattle.design_core.specs.declared.element.Element.{Element}
use Rattle.design_core.specs.declared.element.Element.TheVariants as element
use Rattle.design_core.specs.declared.element.Memory.{Memory as DesignMemory}
use Rattle.cell_parts.specs.CellGates.{clock_elements, clock_inner, comb_elements}
use Rattle.cell_parts.specs.CellStates.{feed_inner, flop_elements, latch_elements, memory_at}
use Rattle.cell_parts.specs.Wires.{Wires}

-- how many inner nets an instance of a kind has
abbrev pub inner_count : CellKind → ℕ
inner_count (Comb inputs outputs) = 0
inner_count (Flop clock f clear preset q qn) = feed_inner f
inner_count (Latch gate f clear preset q qn) = feed_inner f
inner_count (GateClock clock enable test output) = clock_inner test
inner_count (Memory address_bits width writes reads) = 0

-- its elements, where its inner nets begin at a number, and the next memory has a number
unfoldable pub cell_elements : Wires → ℕ → ℕ → CellKind → List Element
cell_elements w inner memory (Comb inputs outputs) = comb_elements w inputs outputs
cell_elements w inner memory (Flop clock f clear preset q qn) = flop_elements w inner clock f clear preset q qn
cell_elements w inner memory (Latch gate f clear preset q qn) = latch_elements w inner gate f clear preset q qn
cell_elements w inner memory (GateClock clock enable test output) = clock_elements w inner clock enable test output
cell_elements w inner memory (Memory address_bits width writes reads) = element.Memory (record { place = memory }) ∷ []

-- its memories: one, or none
unfoldable pub cell_memories : Wires → CellKind → List DesignMemory
cell_memories w (Comb inputs outputs) = []
cell_memories w (Flop clock f clear preset q qn) = []
cell_memories w (Latch gate f clear preset q qn) = []
cell_memories w (GateClock clock enable test output) = []
cell_memories w (Memory address_bits width writes reads) = memory_at w address_bits width writes reads ∷ []
