-- The least gate of a chip that lies on a cycle of gates.
-- The rule is told in docs/RULES.md, "Netlists of chips".
use Rattle.std.specs.Prelude.{◌≡◌, ◌≢◌, ◌<◌, ◌≤◌, ℕ, ◌==◌, if◌then◌else◌, Option, Some, None, List, [], ◌∷◌, map, length, get_or, slice_get, flat_map}
use Rattle.id_arena.specs.declared.keys.ChipNetId.{ChipNetId}
use Rattle.emu_machine.specs.declared.netlist.Chip.{Chip}
use Rattle.emu_machine.specs.declared.netlist.EmuGate.{EmuGate}
use Rattle.emu_machine.specs.Building.{IsChip}
use Rattle.emu_machine.specs.Netlist.{IsOnCycle, net_drivers}

-- the least gate that lies on a cycle, or none where there is none
abbrev pub IsLeastOnCycle : Chip → Option ℕ → Type 0
IsLeastOnCycle chip None = (k : ℕ) → IsOnCycle chip k → ⊥
IsLeastOnCycle chip (Some k) = IsOnCycle chip k × ((j : ℕ) → j < k → IsOnCycle chip j → ⊥)

-- a chip of a netlist: it is formed as one, and each of its nets has one driver
pub record IsDriven (chip : Chip) : Type 0 where
  pub formed : IsChip chip
  pub driven : (n : ℕ) → n < chip.nets → net_drivers chip n ≡ 1

-- ## Inside: the gates as a graph, in which each depends on the gates that drive its inputs

-- the number that stands for no gate
abbrev pub none : ℕ
none = 4294967295

-- the gate that a table names for a net
abbrev pub gate_named : List ℕ → ℕ → ℕ
gate_named table n = get_or table n none

-- the gate of a table that drives a net, where one does
pub record Names (gates : List EmuGate) (count n k : ℕ) : Type 0 where
  pub low : k < count
  pub gate : EmuGate
  pub at : slice_get gates k ≡ Some gate
  pub drives : gate.output.place ≡ n

-- a table names the gate that drives a net, for each net that a gate of some first ones drives
pub record IsTableOf (chip : Chip) (count : ℕ) (table : List ℕ) : Type 0 where
  pub nets : length table ≡ chip.nets
  pub named : (n : ℕ) → gate_named table n ≢ none → Names chip.gates count n (gate_named table n)
  pub all : (k : ℕ) (gate : EmuGate) → k < count → slice_get chip.gates k ≡ Some gate → gate_named table gate.output.place ≡ k

-- the number of a gate, if there is one
abbrev pub listed : ℕ → List ℕ
listed k = if k == none then [] else k ∷ []

-- the gates that drive some nets
abbrev pub drivers : List ℕ → List ChipNetId → List ℕ
drivers table nets = flat_map (λ net. listed (gate_named table net.place)) nets

abbrev pub gate_row : List ℕ → EmuGate → List ℕ
gate_row table gate = drivers table gate.inputs

-- the rows of the graph
pub record AreGateRows (chip : Chip) (rows : List (List ℕ)) : Type 0 where
  pub table : List ℕ
  pub tells : IsTableOf chip (length chip.gates) table
  pub are : rows ≡ map (gate_row table) chip.gates
