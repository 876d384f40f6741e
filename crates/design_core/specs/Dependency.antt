-- Which node's value depends on which, and the ranks that this gives.
-- The rule is told in docs/RULES.md, "Dependencies and rank".
use Rattle.std.specs.Prelude.{◌≡◌, ◌<◌, ◌+◌, ℕ, zero, suc, max, Option, Some, None, List, [], ◌∷◌, ◌++◌, map, length, slice_get, Contains, ◌⊎◌}
use Rattle.std.specs.List.{enumerate_from}
use Rattle.id_arena.specs.declared.keys.NetId.{NetId}
use Rattle.id_arena.specs.declared.keys.MemId.{MemId}
use Rattle.design_core.specs.declared.element.Edge.{Edge}
use Rattle.design_core.specs.declared.element.Element.{Element}
use Rattle.design_core.specs.declared.element.Element.TheVariants as element
use Rattle.design_core.specs.declared.element.Memory.{Memory}
use Rattle.design_core.specs.declared.element.ReadPort.{ReadPort}
use Rattle.design_core.specs.declared.element.WritePort.{WritePort}
use Rattle.design_core.specs.declared.element.Driver.{Driver}
use Rattle.design_core.specs.declared.element.Driver.TheVariants.{Constant, Input, Elem, Read}
use Rattle.design_core.specs.declared.node.NodeId.{NodeId}
use Rattle.design_core.specs.declared.node.NodeId.TheVariants.{Net, Write}
use Rattle.design_core.specs.declared.parts.Parts.{Parts}
use Rattle.design_core.specs.Design.{net_count, driver, reset_nets}

-- the nets on which an element's output depends
abbrev pub needs : Element → List NetId
needs (element.Gate op inputs output) = inputs
needs (element.Flop f) = f.clock ∷ reset_nets f.clear f.preset
needs (element.Latch l) = l.gate.net ∷ l.feed ∷ reset_nets l.clear l.preset
needs (element.Memory m) = []

abbrev pub needs_at : Option Element → List NetId
needs_at None = []
needs_at (Some e) = needs e

-- the write nodes of a memory, by port
abbrev pub write_nodes : MemId → Memory → List NodeId
write_nodes m memory = map (λ (k, port). Write m k) (enumerate_from 0 memory.writes)

-- A bit of a read port with a clock depends on the clock alone. One of a port without depends on the
-- port's address and on all write nodes of its memory.
abbrev pub port_needs : MemId → Memory → List NetId → Option Edge → List NodeId
port_needs m memory address None = map Net address ++ write_nodes m memory
port_needs m memory address (Some edge) = Net edge.net ∷ []

abbrev pub read_needs : MemId → Memory → Option ReadPort → List NodeId
read_needs m memory None = []
read_needs m memory (Some port) = port_needs m memory port.address port.clock

abbrev pub read_needs_at : MemId → Option Memory → ℕ → List NodeId
read_needs_at m None r = []
read_needs_at m (Some memory) r = read_needs m memory (slice_get memory.reads r)

-- inputs and constants depend on nothing
abbrev pub driver_needs : Parts → Driver → List NodeId
driver_needs p (Constant b) = []
driver_needs p Input = []
driver_needs p (Elem e) = map Net (needs_at (slice_get p.elements e.place))
driver_needs p (Read m r b) = read_needs_at m (slice_get p.memories m.place) r

-- the write node of the port before
abbrev pub write_before : MemId → ℕ → List NodeId
write_before m zero = []
write_before m (suc k) = Write m k ∷ []

-- a write node waits for the clock of its port, and for the write node before it
abbrev pub write_needs : MemId → ℕ → Option WritePort → List NodeId
write_needs m k None = []
write_needs m k (Some port) = Net port.clock ∷ write_before m k

abbrev pub write_needs_at : MemId → ℕ → Option Memory → List NodeId
write_needs_at m k None = []
write_needs_at m k (Some memory) = write_needs m k (slice_get memory.writes k)

-- the nodes on which a node depends
abbrev pub dependencies : Parts → NodeId → List NodeId
dependencies p (Net n) = driver_needs p (driver p n.place)
dependencies p (Write m k) = write_needs_at m k (slice_get p.memories m.place)

-- the nets and the write ports that are there
abbrev pub IsNode : Parts → NodeId → Type 0
IsNode p (Net n) = n.place < net_count p
IsNode p (Write m k) = (memory : Memory) × (slice_get p.memories m.place ≡ Some memory) × (k < length memory.writes)

-- one more than the greatest rank of these nodes, and 0 where there is none
abbrev pub above : (NodeId → ℕ) → List NodeId → ℕ
above rank [] = 0
above rank (b ∷ bs) = max (rank b + 1) (above rank bs)

-- a node has a rank where all its dependencies have one, and its rank is the number above theirs
pub data HasRank (p : Parts) : NodeId → ℕ → Type 0 where
  ranked : (a : NodeId) (k : ℕ) (rank : NodeId → ℕ)
      → ((b : NodeId) → Contains (dependencies p a) b → HasRank p b (rank b))
      → k ≡ above rank (dependencies p a)
      → HasRank p a k

-- a design is ranked where each of its nodes has a rank, so that no node depends on itself
abbrev pub IsRanked : Parts → Type 0
IsRanked p = (a : NodeId) → IsNode p a → (k : ℕ) × HasRank p a k

-- the order of nodes: nets by number, then write nodes by memory and port
abbrev pub Precedes : NodeId → NodeId → Type 0
Precedes (Net n) (Net m) = n.place < m.place
Precedes (Net n) (Write m k) = Unit {0}
Precedes (Write m k) (Net n) = ⊥
Precedes (Write m k) (Write l j) = (m.place < l.place) ⊎ ((m.place ≡ l.place) × (k < j))
