-- What the influence of a group leaves out.
-- The rule is told in docs/RULES.md, "Groups and influence".
use Rattle.std.specs.Prelude.{◌≡◌, ◌<◌, ℕ, Bool, false, Some, List, Contains, length, slice_get}
use Rattle.id_arena.specs.declared.keys.NetId.{NetId}
use Rattle.id_arena.specs.declared.keys.MemId.{MemId}
use Rattle.design_core.specs.declared.element.Memory.{Memory}
use Rattle.design_core.specs.declared.element.WritePort.{WritePort}
use Rattle.design_core.specs.declared.node.NodeId.{NodeId}
use Rattle.design_core.specs.declared.node.NodeId.TheVariants.{Net, Write}
use Rattle.design_core.specs.declared.parts.Parts.{Parts}
use Rattle.design_core.specs.declared.values.PortBit.{PortBit}
use Rattle.design_core.specs.Design.{IsDesign, net_count}
use Rattle.design_core.specs.Valuation.{Valuation, IsAddress}
use Rattle.design_core.specs.Settled.{IsSettled}
use Rattle.design_core.specs.Event.{IsAfter, stores}
use Rattle.design_core.specs.Dependency.{IsRanked}
use Rattle.design_core.specs.Influence.{Group, IsInfluence}

-- in an event that gives values to nets of a group alone, a net outside the influence keeps its value
abbrev pub OutsideStays : Type 0
OutsideStays =
    (p : Parts) (v : Valuation) (e : List PortBit) (w : Valuation) (g : Group) (inside : NodeId → Bool)
    → IsDesign p
    → IsRanked p
    → IsSettled p v
    → IsAfter p v e w
    → IsInfluence p g inside
    → ((b : PortBit) → Contains e b → Contains g.nets b.net)
    → (n : NetId)
    → n.place < net_count p
    → inside (Net n) ≡ false
    → w.net n.place ≡ v.net n.place

-- in such an event a write port outside the influence stores nothing
abbrev pub OutsideStoresNothing : Type 0
OutsideStoresNothing =
    (p : Parts) (v : Valuation) (e : List PortBit) (w : Valuation) (g : Group) (inside : NodeId → Bool)
    → IsDesign p
    → IsRanked p
    → IsSettled p v
    → IsAfter p v e w
    → IsInfluence p g inside
    → ((b : PortBit) → Contains e b → Contains g.nets b.net)
    → (m : MemId) (k : ℕ) (memory : Memory) (port : WritePort)
    → slice_get p.memories m.place ≡ Some memory
    → slice_get memory.writes k ≡ Some port
    → inside (Write m k) ≡ false
    → stores v w port ≡ false

-- in such an event a memory none of whose write ports is in the influence keeps its words
abbrev pub OutsideKeepsWords : Type 0
OutsideKeepsWords =
    (p : Parts) (v : Valuation) (e : List PortBit) (w : Valuation) (g : Group) (inside : NodeId → Bool)
    → IsDesign p
    → IsRanked p
    → IsSettled p v
    → IsAfter p v e w
    → IsInfluence p g inside
    → ((b : PortBit) → Contains e b → Contains g.nets b.net)
    → (m : MemId) (memory : Memory)
    → slice_get p.memories m.place ≡ Some memory
    → ((k : ℕ) → k < length memory.writes → inside (Write m k) ≡ false)
    → (a : ℕ)
    → IsAddress p m.place a
    → w.word m.place a ≡ v.word m.place a
