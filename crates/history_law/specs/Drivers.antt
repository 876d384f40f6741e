-- What the driver of a net names, for designs in which no net has two drivers.
-- The rule is told in docs/RULES.md, "The design".
use Rattle.std.specs.Prelude.{◌≡◌, ◌<◌, ℕ, Some, true, slice_get}
use Rattle.id_arena.specs.declared.keys.NetId.{NetId}
use Rattle.id_arena.specs.declared.keys.ElemId.{ElemId}
use Rattle.id_arena.specs.declared.keys.MemId.{MemId}
use Rattle.design_core.specs.declared.element.Element.{Element}
use Rattle.design_core.specs.declared.element.Memory.{Memory}
use Rattle.design_core.specs.declared.element.ReadPort.{ReadPort}
use Rattle.design_core.specs.declared.element.Driver.TheVariants.{Input, Elem, Read}
use Rattle.design_core.specs.declared.parts.Parts.{Parts}
use Rattle.design_core.specs.Design.{IsDesign, net_count, driver, drives, includes, port_bits}

-- an element with a net as its output is there among the drivers: it is what drives that net
abbrev pub ElementIsDriver : Type 0
ElementIsDriver =
    (p : Parts) (element net : ℕ) (e : Element)
    → IsDesign p
    → slice_get p.elements element ≡ Some e
    → drives net e ≡ true
    → (net < net_count p) × (driver p net ≡ Elem (record { place = element }))

-- an element that is named as what drives a net is there, and the net is its output
abbrev pub DriverIsElement : Type 0
DriverIsElement =
    (p : Parts) (net : ℕ) (element : ElemId)
    → driver p net ≡ Elem element
    → (e : Element) × (slice_get p.elements element.place ≡ Some e) × (drives net e ≡ true)

-- a bit of a read port is what drives its net
abbrev pub ReadBitIsDriver : Type 0
ReadBitIsDriver =
    (p : Parts) (mem read bit : ℕ) (memory : Memory) (port : ReadPort) (net : NetId)
    → IsDesign p
    → slice_get p.memories mem ≡ Some memory
    → slice_get memory.reads read ≡ Some port
    → slice_get port.bits bit ≡ Some net
    → (net.place < net_count p) × (driver p net.place ≡ Read (record { place = mem }) read bit)

-- a read bit that is named as what drives a net is there, and drives that net
abbrev pub DriverIsReadBit : Type 0
DriverIsReadBit =
    (p : Parts) (n : ℕ) (mem : MemId) (read bit : ℕ)
    → driver p n ≡ Read mem read bit
    → (memory : Memory) × (port : ReadPort) × (net : NetId)
    × (slice_get p.memories mem.place ≡ Some memory)
    × (slice_get memory.reads read ≡ Some port)
    × (slice_get port.bits bit ≡ Some net)
    × (net.place ≡ n)

-- a bit of an input port is driven from outside
abbrev pub InputBitIsInput : Type 0
InputBitIsInput =
    (p : Parts) (net : ℕ)
    → IsDesign p
    → includes (port_bits p.inputs) net ≡ true
    → (net < net_count p) × (driver p net ≡ Input)

-- a net that is driven from outside is a bit of an input port
abbrev pub InputIsInputBit : Type 0
InputIsInputBit = (p : Parts) (net : ℕ) → driver p net ≡ Input → includes (port_bits p.inputs) net ≡ true
