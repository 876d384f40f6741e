-- The bits of read ports with a clock, and what they take where the clock has its edge.
-- The rule is told in docs/RULES.md, "After an event".
use Rattle.std.specs.Prelude.{◌≡◌, ◌<◌, ℕ, Bool, true, false, Option, Some, None, List, length, is_some, slice_get, get_or, Contains}
use Rattle.id_arena.specs.declared.keys.NetId.{NetId}
use Rattle.design_core.specs.declared.element.Edge.{Edge}
use Rattle.design_core.specs.declared.element.Memory.{Memory}
use Rattle.design_core.specs.declared.element.ReadPort.{ReadPort}
use Rattle.design_core.specs.declared.element.Driver.{Driver}
use Rattle.design_core.specs.declared.element.Driver.TheVariants.{Constant, Input, Elem, Read}
use Rattle.design_core.specs.declared.parts.Parts.{Parts}
use Rattle.design_core.specs.Operation.{bit_of}
use Rattle.design_core.specs.Design.{net_count, driver}
use Rattle.design_core.specs.Valuation.{Valuation, shown_number}

-- a read port of a memory, where memory and port are there
abbrev pub port_among : ℕ → Option Memory → Option ReadPort
port_among r None = None
port_among r (Some memory) = slice_get memory.reads r

abbrev pub port_of : Parts → ℕ → ℕ → Option ReadPort
port_of p m r = port_among r (slice_get p.memories m)

-- the clock of a port, where the port is there and has one
abbrev pub clock_of : Option ReadPort → Option Edge
clock_of None = None
clock_of (Some port) = port.clock

-- a bit of the word at a port's address
abbrev pub word_bit : (ℕ → ℕ) → Valuation → ℕ → Option ReadPort → Bool
word_bit words u b None = false
word_bit words u b (Some port) = bit_of (words (shown_number u port.address)) b

-- whether what drives a net is a bit of a read port with a clock
abbrev pub is_clocked : Parts → Driver → Bool
is_clocked p (Constant b) = false
is_clocked p Input = false
is_clocked p (Elem k) = false
is_clocked p (Read m r b) = is_some (clock_of (port_of p m.place r))

-- what such a bit takes, from the words and the address as they stand before an event
abbrev pub taken_value : Parts → (ℕ → ℕ → ℕ) → Valuation → Driver → Bool
taken_value p words v (Constant b) = false
taken_value p words v Input = false
taken_value p words v (Elem k) = false
taken_value p words v (Read m r b) = word_bit (words m.place) v b (port_of p m.place r)

-- these nets are the bits of read ports with a clock
pub record AreClocked (p : Parts) (clocked : List NetId) : Type 0 where
  pub there : (n : NetId) → Contains clocked n → (n.place < net_count p) × (is_clocked p (driver p n.place) ≡ true)
  pub all : (n : NetId) → n.place < net_count p → is_clocked p (driver p n.place) ≡ true → Contains clocked n

-- each of these nets has what it takes, and each net that is no bit of a read port with a clock its own value
pub record HasTaken (p : Parts) (clocked : List NetId) (words : ℕ → ℕ → ℕ) (v : Valuation) (before after : List Bool) : Type 0 where
  pub size : length after ≡ length before
  pub taken : (n : NetId) → Contains clocked n → get_or after n.place false ≡ taken_value p words v (driver p n.place)
  pub others : (n : ℕ) → is_clocked p (driver p n) ≡ false → get_or after n false ≡ get_or before n false
