-- The numbers of nodes: nets by number, then write nodes by memory and port.
use Rattle.std.specs.Prelude.{◌≡◌, ◌<◌, ◌+◌, ◌^◌, ℕ, zero, suc, List, [], ◌∷◌, ◌++◌, map, length, slice_index, slice_index_or, slice_get, Some}
use Rattle.std.specs.List.{range_with_len}
use Rattle.design_core.specs.declared.element.Memory.{Memory}
use Rattle.design_core.specs.declared.element.ReadPort.{ReadPort}
use Rattle.design_core.specs.declared.element.Driver.{Driver}
use Rattle.design_core.specs.declared.element.Driver.TheVariants.{Constant, Input, Elem, Read}
use Rattle.design_core.specs.declared.node.NodeId.{NodeId}
use Rattle.design_core.specs.declared.node.NodeId.TheVariants.{Net, Write}
use Rattle.design_core.specs.declared.parts.Parts.{Parts}
use Rattle.design_core.specs.Design.{net_count}
use Rattle.design_core.specs.Dependency.{dependencies}

abbrev pub net_node : ℕ → NodeId
net_node n = Net (record { place = n })

-- the write nodes of a memory with so many write ports
abbrev pub port_nodes : ℕ → ℕ → List NodeId
port_nodes m count = map (Write (record { place = m })) (range_with_len 0 count)

-- the write nodes of some memories, of which the first has this number
abbrev pub memory_nodes : ℕ → List Memory → List NodeId
memory_nodes m [] = []
memory_nodes m (memory ∷ memories) = port_nodes m (length memory.writes) ++ memory_nodes (m + 1) memories

-- all nodes, in their order
abbrev pub all_nodes : Parts → List NodeId
all_nodes p = map net_node (range_with_len 0 (net_count p)) ++ memory_nodes 0 p.memories

-- how many write ports the first memories have
abbrev pub writes_before : ℕ → List Memory → ℕ
writes_before zero memories = 0
writes_before (suc m) [] = 0
writes_before (suc m) (memory ∷ memories) = length memory.writes + writes_before m memories

-- the number of the first write node of a memory
abbrev pub first_write : Parts → ℕ → ℕ
first_write p m = net_count p + writes_before m p.memories

-- the number of a node
abbrev pub number_of : Parts → NodeId → ℕ
number_of p (Net n) = n.place
number_of p (Write m k) = first_write p m.place + k

-- the node of a number
abbrev pub node_at : Parts → ℕ → NodeId
node_at p n = slice_index_or (all_nodes p) n (net_node 0)

-- the numbers of the nodes on which a node depends
abbrev pub row_of : Parts → NodeId → List ℕ
row_of p a = map (number_of p) (dependencies p a)

-- the dependencies of all nodes, as a graph
abbrev pub rows : Parts → List (List ℕ)
rows p = map (row_of p) (all_nodes p)

-- where the numbers of each memory's write nodes begin
pub record AreStarts (p : Parts) (count : ℕ) (starts : List ℕ) : Type 0 where
  pub size : length starts ≡ count
  pub small : first_write p (length p.memories) < 2 ^ 32
  pub each : (m : ℕ) → m < count → slice_index starts m ≡ first_write p m

-- a driver names what is there
abbrev pub IsThere : Parts → Driver → Type 0
IsThere p (Constant b) = Unit {0}
IsThere p Input = Unit {0}
IsThere p (Elem e) = e.place < length p.elements
IsThere p (Read m r b) =
    (memory : Memory) × (port : ReadPort) × (slice_get p.memories m.place ≡ Some memory) × (slice_get memory.reads r ≡ Some port)
