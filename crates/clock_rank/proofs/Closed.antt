-- What a node depends on is a node of the design.
use Rattle.std.proofs.Common.{◌≡◌, ◌+◌, ℕ, zero, suc, List, [], ◌∷◌, ◌++◌, map, length, refl, arith}
use Rattle.std.specs.Prelude.{Option, Some, None, slice_get}
use Rattle.std.specs.List.{Contains, enumerate_from}
use Rattle.id_arena.specs.declared.keys.NetId.{NetId}
use Rattle.id_arena.specs.declared.keys.MemId.{MemId}
use Rattle.design_core.specs.declared.element.Edge.{Edge}
use Rattle.design_core.specs.declared.element.Element.{Element}
use Rattle.design_core.specs.declared.element.Element.TheVariants as element
use Rattle.design_core.specs.declared.element.Memory.{Memory}
use Rattle.design_core.specs.declared.element.ReadPort.{ReadPort}
use Rattle.design_core.specs.declared.element.WritePort.{WritePort}
use Rattle.design_core.specs.declared.element.Driver.{Driver}
use Rattle.design_core.specs.declared.element.Driver.TheVariants.{Constant, Input, Elem, Read}
use Rattle.design_core.specs.declared.node.NodeId.{NodeId}
use Rattle.design_core.specs.declared.node.NodeId.TheVariants.{Net, Write}
use Rattle.design_core.specs.declared.parts.Parts.{Parts}
use Rattle.design_core.specs.Design.{IsDesign, driver, element_reads, write_reads, clock_nets}
use Rattle.design_core.specs.Dependency.{IsNode, dependencies, driver_needs, needs, needs_at, port_needs, read_needs, read_needs_at, write_nodes, write_needs, write_needs_at, write_before}
use Rattle.history_law.proofs.Ranges.{Each, InRange, Within, each_both, each_in, within_each, within_left, element_within, write_within, read_within}

nets_are_nodes : (p : Parts) (nets : List NetId) → Each (InRange p) (map Net nets) → Each (IsNode p) (map Net nets)
nets_are_nodes p [] h = tt
nets_are_nodes p (n ∷ nets) h = (h.0, nets_are_nodes p nets h.1)

needs_are_nodes : (p : Parts) (e : Element) → Each (IsNode p) (map Net (element_reads e)) → Each (IsNode p) (map Net (needs e))
needs_are_nodes p (element.Gate op inputs output) h = h
needs_are_nodes p (element.Flop f) h = (h.0, h.1.1)
needs_are_nodes p (element.Latch l) h = h
needs_are_nodes p (element.Memory m) h = tt

-- the write nodes of the ports from one on
ports_are_nodes : (p : Parts) (m : MemId) (memory : Memory) → slice_get p.memories m.place ≡ Some memory
    → (n : ℕ) (ports : List WritePort) → n + length ports ≡ length memory.writes
    → Each (IsNode p) (map (λ (k, port). Write m k) (enumerate_from n ports))
ports_are_nodes p m memory at n [] size = tt
ports_are_nodes p m memory at n (port ∷ ports) size =
    ((memory, at, omega arith), ports_are_nodes p m memory at (n + 1) ports (omega arith))

module _ (p : Parts) (d : IsDesign p) where
  element_nodes : (k : ℕ) (o : Option Element) → slice_get p.elements k ≡ o → Each (IsNode p) (map Net (needs_at o))
  element_nodes k None at = tt
  element_nodes k (Some e) at = needs_are_nodes p e (nets_are_nodes p (element_reads e) (within_each p (element_reads e) (element_within p d k e at)))

  -- what the bits of a port depend on, by whether it has a clock
  bit_nodes : (m : MemId) (memory : Memory) → slice_get p.memories m.place ≡ Some memory → (address : List NetId) (clock : Option Edge) → Within p (clock_nets clock ++ address) → Each (IsNode p) (port_needs m memory address clock)
  bit_nodes m memory at address None h =
      each_both (IsNode p) (map Net address) (write_nodes m memory)
      (nets_are_nodes p address (within_each p address h))
      (ports_are_nodes p m memory at 0 memory.writes (omega arith))
  bit_nodes m memory at address (Some edge) h =
      nets_are_nodes p (edge.net ∷ []) (within_each p (edge.net ∷ []) (within_left p (edge.net ∷ []) address h))

  port_nodes : (m : MemId) (memory : Memory) → slice_get p.memories m.place ≡ Some memory → (r : ℕ) (o : Option ReadPort) → slice_get memory.reads r ≡ o → Each (IsNode p) (read_needs m memory o)
  port_nodes m memory at r None in_port = tt
  port_nodes m memory at r (Some port) in_port =
      bit_nodes m memory at port.address port.clock (read_within p d m.place r memory port at in_port)

  read_nodes : (m : MemId) (r : ℕ) (o : Option Memory) → slice_get p.memories m.place ≡ o → Each (IsNode p) (read_needs_at m o r)
  read_nodes m r None at = tt
  read_nodes m r (Some memory) at = port_nodes m memory at r (slice_get memory.reads r) refl

  driver_nodes : (r : Driver) → Each (IsNode p) (driver_needs p r)
  driver_nodes (Constant b) = tt
  driver_nodes Input = tt
  driver_nodes (Elem k) = element_nodes k.place (slice_get p.elements k.place) refl
  driver_nodes (Read m r b) = read_nodes m r (slice_get p.memories m.place) refl

  before_nodes : (m : MemId) (k : ℕ) → IsNode p (Write m k) → Each (IsNode p) (write_before m k)
  before_nodes m zero node = tt
  before_nodes m (suc k) (memory, at, below) = ((memory, at, omega arith), tt)

  clock_nodes : (m : MemId) (k : ℕ) → IsNode p (Write m k) → (memory : Memory) → slice_get p.memories m.place ≡ Some memory → (o : Option WritePort) → slice_get memory.writes k ≡ o → Each (IsNode p) (write_needs m k o)
  clock_nodes m k node memory at None in_port = tt
  clock_nodes m k node memory at (Some port) in_port =
      ((nets_are_nodes p (write_reads port) (within_each p (write_reads port) (write_within p d m.place k memory port at in_port))).0, before_nodes m k node)

  write_nodes_there : (m : MemId) (k : ℕ) → IsNode p (Write m k) → (o : Option Memory) → slice_get p.memories m.place ≡ o → Each (IsNode p) (write_needs_at m k o)
  write_nodes_there m k node None at = tt
  write_nodes_there m k node (Some memory) at = clock_nodes m k node memory at (slice_get memory.writes k) refl

  each_node : (a : NodeId) → IsNode p a → Each (IsNode p) (dependencies p a)
  each_node (Net n) node = driver_nodes (driver p n.place)
  each_node (Write m k) node = write_nodes_there m k node (slice_get p.memories m.place) refl

  pub depends_on_nodes : (a b : NodeId) → IsNode p a → Contains (dependencies p a) b → IsNode p b
  depends_on_nodes a b node h = each_in (IsNode p) (dependencies p a) b (each_node a node) h
