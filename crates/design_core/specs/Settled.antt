-- When a valuation is settled, and which settled valuation an opening gives.
-- The rules are told in docs/RULES.md, "Settled" and "Opened".
use Rattle.std.specs.Prelude.{◌≡◌, ◌<◌, ℕ, Bool, None, Some, slice_get, IfSome, IfNone}
use Rattle.id_arena.specs.declared.keys.NetId.{NetId}
use Rattle.design_core.specs.declared.element.Edge.{Edge}
use Rattle.design_core.specs.declared.element.Element.{Element}
use Rattle.design_core.specs.declared.element.Element.TheVariants as element
use Rattle.design_core.specs.declared.element.Memory.{Memory}
use Rattle.design_core.specs.declared.element.ReadPort.{ReadPort}
use Rattle.design_core.specs.declared.element.Driver.TheVariants.{Constant, Input}
use Rattle.design_core.specs.declared.parts.Parts.{Parts}
use Rattle.design_core.specs.Operation.{op_value}
use Rattle.design_core.specs.Design.{net_count, driver}
use Rattle.design_core.specs.Valuation.{Valuation, values, addressed_bit, forced, passed, IsAddress, WordsFit}

-- each net that is a constant has its value
abbrev pub ConstantsHold : Parts → Valuation → Type 0
ConstantsHold p v = (n : ℕ) (b : Bool) → n < net_count p → driver p n ≡ Constant b → v.net n ≡ b

-- a net is the bit of this number of a read port, of which the memory and the place are told
pub record IsReadBit (p : Parts) (m r b : ℕ) (port : ReadPort) (n : NetId) : Type 0 where
  pub memory : Memory
  pub is_memory : slice_get p.memories m ≡ Some memory
  pub is_port : slice_get memory.reads r ≡ Some port
  pub is_bit : slice_get port.bits b ≡ Some n

-- each bit of a read port without a clock is its bit of the word at the port's address
abbrev pub ReadsHold : Parts → Valuation → Type 0
ReadsHold p v =
    (m r b : ℕ) (port : ReadPort) (n : NetId)
    → IsReadBit p m r b port n
    → port.clock ≡ None
    → v.net n.place ≡ addressed_bit v m port b

-- A gate shows its function of its inputs, a flip-flop what its resets force, and a latch what it
-- passes. What read ports show is told apart from elements.
abbrev pub ElementHolds : Valuation → Element → Type 0
ElementHolds v (element.Gate op inputs output) = v.net output.place ≡ op_value op (values v inputs)
ElementHolds v (element.Flop f) = IfSome (forced f.clear f.preset v) (λ b. v.net f.q.place ≡ b)
ElementHolds v (element.Latch l) = IfSome (passed l v) (λ b. v.net l.q.place ≡ b)
ElementHolds v (element.Memory m) = Unit {0}

-- a valuation is settled where constants, elements and read bits hold
pub record IsSettled (p : Parts) (v : Valuation) : Type 0 where
  pub constants : ConstantsHold p v
  pub elements : (k : ℕ) (e : Element) → slice_get p.elements k ≡ Some e → ElementHolds v e
  pub reads : ReadsHold p v

-- What an opening gives: values of inputs by net, of flip-flops and latches by element, of the bits of
-- read ports with a clock by memory, port and bit, and words.
pub record Opening : Type 0 where
  pub inputs : ℕ → Bool
  pub states : ℕ → Bool
  pub reads : ℕ → ℕ → ℕ → Bool
  pub words : ℕ → ℕ → ℕ

-- an opening gives words that fit
abbrev pub OpeningFits : Parts → Opening → Type 0
OpeningFits p o = WordsFit p o.words

-- a flip-flop that no reset forces, and a latch that passes nothing, have the state that is given
abbrev pub HasState : Valuation → Bool → Element → Type 0
HasState v state (element.Gate op inputs output) = Unit {0}
HasState v state (element.Flop f) = IfNone (forced f.clear f.preset v) (v.net f.q.place ≡ state)
HasState v state (element.Latch l) = IfNone (passed l v) (v.net l.q.place ≡ state)
HasState v state (element.Memory m) = Unit {0}

-- each bit of a read port with a clock has the value that is given
abbrev pub ReadsOpened : Parts → Opening → Valuation → Type 0
ReadsOpened p o v =
    (m r b : ℕ) (port : ReadPort) (edge : Edge) (n : NetId)
    → IsReadBit p m r b port n
    → port.clock ≡ Some edge
    → v.net n.place ≡ o.reads m r b

-- the opened valuation is settled and has the inputs, words, free states and clocked read bits of the
-- opening
pub record IsOpened (p : Parts) (o : Opening) (v : Valuation) : Type 0 where
  pub settled : IsSettled p v
  pub inputs : (n : ℕ) → n < net_count p → driver p n ≡ Input → v.net n ≡ o.inputs n
  pub words : (m a : ℕ) → IsAddress p m a → v.word m a ≡ o.words m a
  pub states : (k : ℕ) (e : Element) → slice_get p.elements k ≡ Some e → HasState v (o.states k) e
  pub reads : ReadsOpened p o v
