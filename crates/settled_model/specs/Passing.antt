-- What each element gives to its output, in an opening and in an event.
-- The rules are told in docs/RULES.md, "Opened" and "After an event".
use Rattle.std.specs.Prelude.{◌≡◌, ◌<◌, ◌+◌, ◌^◌, ◌==◌, ◌||◌, ℕ, Bool, false, Option, Some, None, List, if◌then◌else◌, length, unwrap_or, slice_get, slice_set, get_or, Contains}
use Rattle.std.specs.List.{list_any}
use Rattle.id_arena.specs.declared.keys.ElemId.{ElemId}
use Rattle.design_core.specs.declared.element.Edge.{Edge}
use Rattle.design_core.specs.declared.element.Element.{Element}
use Rattle.design_core.specs.declared.element.Element.TheVariants as element
use Rattle.design_core.specs.declared.element.Memory.{Memory}
use Rattle.design_core.specs.declared.element.ReadPort.{ReadPort}
use Rattle.design_core.specs.declared.element.WritePort.{WritePort}
use Rattle.design_core.specs.declared.element.Driver.{Driver}
use Rattle.design_core.specs.declared.element.Driver.TheVariants.{Constant, Input, Elem, Read}
use Rattle.design_core.specs.declared.node.NodeId.{NodeId}
use Rattle.design_core.specs.declared.node.NodeId.TheVariants.{Net, Write}
use Rattle.design_core.specs.declared.parts.Parts.{Parts}
use Rattle.design_core.specs.declared.values.PortBit.{PortBit}
use Rattle.design_core.specs.Operation.{op_value}
use Rattle.design_core.specs.Design.{net_count, driver}
use Rattle.design_core.specs.Limits.{word_count}
use Rattle.design_core.specs.Event.{given, stores, written}
use Rattle.design_core.specs.Dependency.{IsNode, dependencies}
use Rattle.design_core.specs.Valuation.{Valuation, values, shown_number, forced, passed, has_edge, IsAddress}
use Rattle.settled_model.specs.declared.turn.Turn.{Turn}
use Rattle.settled_model.specs.declared.turn.Turn.TheVariants.{Opening, Event}
use Rattle.settled_model.specs.declared.opening.OpenWord.{OpenWord}
use Rattle.settled_model.specs.Held.{shown, first_word, word_in}
use Rattle.settled_model.specs.Clocked.{port_of, clock_of, word_bit}
use Rattle.settled_model.specs.Opening.{word_given}

-- no edge counts in an opening
abbrev pub counts : Turn → Bool → Bool
counts Opening edge = false
counts Event edge = edge

-- what a flip-flop or a latch shows where nothing forces it
abbrev pub kept : Turn → Valuation → Valuation → Element → Bool
kept turn v u (element.Gate op inputs output) = false
kept turn v u (element.Flop f) =
    if counts turn (has_edge v u f.clock f.rise) then v.net f.feed.place else v.net f.q.place
kept turn v u (element.Latch l) = v.net l.q.place
kept turn v u (element.Memory m) = false

-- what an element gives to its output, from the valuation before and what stands after so far
abbrev pub element_value : Turn → Valuation → Valuation → Element → Bool
element_value turn v u (element.Gate op inputs output) = op_value op (values u inputs)
element_value turn v u (element.Flop f) = unwrap_or (forced f.clear f.preset u) (kept turn v u (element.Flop f))
element_value turn v u (element.Latch l) = unwrap_or (passed l u) (kept turn v u (element.Latch l))
element_value turn v u (element.Memory m) = false

abbrev pub value_at : Turn → Valuation → Valuation → Option Element → Bool
value_at turn v u None = false
value_at turn v u (Some e) = element_value turn v u e

-- what a bit of a read port with this clock shows: what it takes where the clock has its edge, else its
-- old value
abbrev pub clocked_value : Turn → Valuation → Valuation → ℕ → Bool → Edge → Bool
clocked_value turn v u n taken edge = if counts turn (has_edge v u edge.net edge.rise) then taken else v.net n

-- what a bit of a read port shows, by the port's clock; without one its bit of the word at the address
abbrev pub bit_value : Turn → (ℕ → ℕ) → Valuation → Valuation → ℕ → ℕ → Bool → Option ReadPort → Option Edge → Bool
bit_value turn words v u n b taken port None = word_bit words u b port
bit_value turn words v u n b taken port (Some edge) = clocked_value turn v u n taken edge

-- What a driver gives to its net, for the words of all memories and for the values that are put in before:
-- those of inputs, and what bits of read ports with a clock take.
abbrev pub driver_value : Parts → Turn → (ℕ → Bool) → (ℕ → ℕ → ℕ) → Valuation → Valuation → ℕ → Driver → Bool
driver_value p turn inputs words v u n (Constant b) = b
driver_value p turn inputs words v u n Input = inputs n
driver_value p turn inputs words v u n (Elem k) = value_at turn v u (slice_get p.elements k.place)
driver_value p turn inputs words v u n (Read m r b) =
    bit_value turn (words m.place) v u n b (inputs n) (port_of p m.place r) (clock_of (port_of p m.place r))

-- the words after a write port has acted, where those of its memory begin at this place
abbrev pub stored : Valuation → Valuation → WritePort → ℕ → List ℕ → List ℕ
stored v w port base words =
    if stores v w port then slice_set words (base + shown_number v port.address) (shown_number v port.feed) else words

-- no port acts in an opening
abbrev pub stored_in : Turn → Valuation → Valuation → WritePort → ℕ → List ℕ → List ℕ
stored_in Opening v w port base words = words
stored_in Event v w port base words = stored v w port base words

abbrev pub written_in : Turn → Valuation → Valuation → List WritePort → ℕ → ℕ → ℕ
written_in Opening v w ports a old = old
written_in Event v w ports a old = written v w ports a old

-- the words after a write node has had its turn
abbrev pub HasStored : Parts → Turn → List Bool → List Bool → ℕ → ℕ → List ℕ → List ℕ → Type 0
HasStored p turn old new m k words rest =
    (memory : Memory) (port : WritePort)
    → slice_get p.memories m ≡ Some memory
    → slice_get memory.writes k ≡ Some port
    → rest ≡ stored_in turn (shown old) (shown new) port (first_word p m) words

-- the tables after a node has had its turn
abbrev pub HasRenewed : Parts → Turn → List Bool → NodeId → List Bool → List ℕ → List Bool → List ℕ → Type 0
HasRenewed p turn old (Net n) new words after rest =
    (after ≡ slice_set new n.place (driver_value p turn (shown new).net (word_in p words) (shown old) (shown new) n.place (driver p n.place)))
    × (rest ≡ words)
HasRenewed p turn old (Write m k) new words after rest = (after ≡ new) × HasStored p turn old new m.place k words rest

-- The tables in which each net has what its driver gives, where inputs and what clocked bits take are what
-- stood at the start, and each word is what the write ports make of it.
pub record AreRenewed (p : Parts) (turn : Turn) (old start : List Bool) (begun : List ℕ) (new : List Bool) (rest : List ℕ) : Type 0 where
  pub size : length new ≡ net_count p
  pub room : length rest ≡ word_count p
  pub nets : (n : ℕ) → n < net_count p
      → (shown new).net n ≡ driver_value p turn (shown start).net (word_in p rest) (shown old) (shown new) n (driver p n)
  pub words : (m a : ℕ) (memory : Memory) → slice_get p.memories m ≡ Some memory → a < 2 ^ memory.address_bits
      → word_in p rest m a ≡ written_in turn (shown old) (shown new) memory.writes a (word_in p begun m a)

-- each node stands in the order, none twice, and each after all on which it depends
pub record IsOrder (p : Parts) (order : List NodeId) : Type 0 where
  pub nodes : (k : ℕ) (a : NodeId) → slice_get order k ≡ Some a → IsNode p a
  pub all : (a : NodeId) → IsNode p a → Contains order a
  pub once : (j k : ℕ) (a : NodeId) → slice_get order j ≡ Some a → slice_get order k ≡ Some a → j ≡ k
  pub earlier : (j k : ℕ) (a b : NodeId) → slice_get order k ≡ Some a → slice_get order j ≡ Some b → Contains (dependencies p a) b → j < k

-- a net that is given a value has it, and each other one keeps its own
pub record HasPut (values : List PortBit) (before after : List Bool) : Type 0 where
  pub size : length after ≡ length before
  pub nets : (n : ℕ) → get_or after n false ≡ unwrap_or (given values n) (get_or before n false)

-- whether an element is a flip-flop or latch with this output
abbrev pub is_state : ℕ → Element → Bool
is_state n (element.Gate op inputs output) = false
is_state n (element.Flop f) = f.q.place == n
is_state n (element.Latch l) = l.q.place == n
is_state n (element.Memory m) = false

abbrev pub is_state_at : ℕ → Option Element → Bool
is_state_at n None = false
is_state_at n (Some e) = is_state n e

-- the output of a flip-flop or latch is 1, and each other net keeps its value
pub record HasSetOne (e : Element) (before after : List Bool) : Type 0 where
  pub size : length after ≡ length before
  pub nets : (n : ℕ) → get_or after n false ≡ (get_or before n false || is_state n e)

-- the output of each of these flip-flops and latches is 1, and each other net keeps its value
pub record HasSet (p : Parts) (ones : List ElemId) (before after : List Bool) : Type 0 where
  pub size : length after ≡ length before
  pub nets : (n : ℕ) → get_or after n false ≡ (get_or before n false || list_any (λ id. is_state_at n (slice_get p.elements id.place)) ones)

-- a word that is given has its value, and each other one keeps its own
pub record HasWords (p : Parts) (given : List OpenWord) (before after : List ℕ) : Type 0 where
  pub size : length after ≡ length before
  pub words : (m a : ℕ) → IsAddress p m a → word_in p after m a ≡ unwrap_or (word_given given m a) (word_in p before m a)
