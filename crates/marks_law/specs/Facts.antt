-- Inside the laws of marks: what they take of the design alone, as premises: what `driver` names, and what
-- an event keeps. The rules are told in docs/RULES.md, "The design", "After an event" and "Groups and influence".
use Rattle.std.specs.Prelude.{◌≡◌, ◌<◌, ℕ, Bool, true, false, Some, List, slice_get, IsTrue}
use Rattle.id_arena.specs.declared.keys.NetId.{NetId}
use Rattle.id_arena.specs.declared.keys.ElemId.{ElemId}
use Rattle.id_arena.specs.declared.keys.MemId.{MemId}
use Rattle.design_core.specs.declared.element.Element.{Element}
use Rattle.design_core.specs.declared.element.Memory.{Memory}
use Rattle.design_core.specs.declared.element.ReadPort.{ReadPort}
use Rattle.design_core.specs.declared.element.WritePort.{WritePort}
use Rattle.design_core.specs.declared.element.Driver.TheVariants.{Input, Elem}
use Rattle.design_core.specs.declared.node.NodeId.{NodeId}
use Rattle.design_core.specs.declared.node.NodeId.TheVariants.{Net, Write}
use Rattle.design_core.specs.declared.parts.Parts.{Parts}
use Rattle.design_core.specs.declared.values.PortBit.{PortBit}
use Rattle.design_core.specs.Design.{net_count, driver, drives, port_bits, includes}
use Rattle.design_core.specs.Valuation.{Valuation}
use Rattle.design_core.specs.Settled.{IsSettled}
use Rattle.design_core.specs.Event.{IsAfter, stores}
use Rattle.emu_machine.specs.Mapped.{design_write}

-- What `driver` names is there: an element that drives the net, and a net of the design. An input bit is
-- driven by its port, and a read bit is a net of the design.
pub record DriverFacts (p : Parts) : Type 0 where
  pub element : (n : ℕ) (e : ElemId) → driver p n ≡ Elem e
      → (element : Element) × (slice_get p.elements e.place ≡ Some element) × (drives n element ≡ true)
  pub in_range : (n : ℕ) (e : ElemId) → driver p n ≡ Elem e → n < net_count p
  pub inputs : (n : ℕ) → IsTrue (includes (port_bits p.inputs) n) → driver p n ≡ Input
  pub read_bits : (mem read bit : ℕ) (memory : Memory) (port : ReadPort) (net : NetId)
      → slice_get p.memories mem ≡ Some memory → slice_get memory.reads read ≡ Some port → slice_get port.bits bit ≡ Some net
      → net.place < net_count p

-- An event from `v` to `w`: both are settled, `w` is the valuation after the event, and what lies outside
-- the influence does not change: nets keep their values, write ports store nothing, and they come first.
pub record EventFacts (p : Parts) (inside : NodeId → Bool) (v : Valuation) (event : List PortBit) (w : Valuation) : Type 0 where
  pub drivers : DriverFacts p
  pub settled : IsSettled p v
  pub stays_settled : IsSettled p w
  pub follows : IsAfter p v event w
  pub nets : (n : NetId) → n.place < net_count p → inside (Net n) ≡ false → w.net n.place ≡ v.net n.place
  pub writes : (mem : MemId) (k : ℕ) (port : WritePort) → design_write p mem.place k ≡ Some port → inside (Write mem k) ≡ false
      → stores v w port ≡ false
  pub in_order : (mem : MemId) (earlier later : ℕ) (port : WritePort) → earlier < later
      → design_write p mem.place later ≡ Some port → inside (Write mem later) ≡ false → inside (Write mem earlier) ≡ false
