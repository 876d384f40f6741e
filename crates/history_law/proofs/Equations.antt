-- Offered to the crates above: the values that a design gives to its nets as one equation for each net, for
-- the opened valuation and for the valuation after an event alike.
use Rattle.std.proofs.Common.{◌≡◌, ℕ, ◌<◌, arith, Bool, true, false, not, List, [], ◌∷◌, map, refl, subst, sym, ap, ◌∙◌, if◌then◌else◌}
use Rattle.std.specs.Prelude.{Option, Some, None, Contains, slice_get, unwrap_or}
use Rattle.std.specs.Option.{option_or}
use Rattle.id_arena.specs.declared.keys.NetId.{NetId}
use Rattle.id_arena.specs.declared.keys.MemId.{MemId}
use Rattle.design_core.specs.declared.element.Edge.{Edge}
use Rattle.design_core.specs.declared.element.Level.{Level}
use Rattle.design_core.specs.declared.element.Latch.{Latch}
use Rattle.design_core.specs.declared.element.Element.{Element}
use Rattle.design_core.specs.declared.element.Element.TheVariants as element
use Rattle.design_core.specs.declared.element.Memory.{Memory}
use Rattle.design_core.specs.declared.element.ReadPort.{ReadPort}
use Rattle.design_core.specs.declared.element.WritePort.{WritePort}
use Rattle.design_core.specs.declared.element.Driver.{Driver}
use Rattle.design_core.specs.declared.element.Driver.TheVariants.{Constant, Input, Elem, Read}
use Rattle.design_core.specs.declared.node.NodeId.{NodeId}
use Rattle.design_core.specs.declared.node.NodeId.TheVariants.{Net, Write}
use Rattle.design_core.specs.declared.parts.Parts.{Parts}
use Rattle.design_core.specs.Operation.{op_value, number, bit_of}
use Rattle.design_core.specs.Design.{IsDesign, ReadBit, net_count, driver, drives, reset_nets}
use Rattle.design_core.specs.Valuation.{Valuation, values, shown_number, acts, forced, passed}
use Rattle.design_core.specs.Settled.{ConstantsHold, IsReadBit}
use Rattle.design_core.specs.Dependency.{dependencies, driver_needs, needs, needs_at, port_needs, read_needs, read_needs_at, write_nodes, write_needs, write_needs_at, HasRank, ranked}
use Rattle.facts.proofs.Tests.{no, same_number, number_same}
use Rattle.history_law.proofs.Naming.{read_bit, element_is_driver, driver_is_element, read_bit_is_driver, driver_is_read_bit}
use Rattle.history_law.proofs.Ranges.{Each, each_of, each_left, each_right, each_write}

-- what flip-flops and latches show where nothing forces them, the words of memories, and what the bits of
-- read ports with a clock show
pub record Start : Type 0 where
  pub state : Valuation → ℕ → Element → Bool
  pub word : Valuation → ℕ → ℕ → ℕ
  pub read : Valuation → ReadBit → ReadPort → Edge → Bool

abbrev pub element_shows : Bool → Valuation → Element → Bool
element_shows state u (element.Gate op inputs output) = op_value op (values u inputs)
element_shows state u (element.Flop f) = unwrap_or (forced f.clear f.preset u) state
element_shows state u (element.Latch l) = unwrap_or (passed l u) state
element_shows state u (element.Memory m) = false

abbrev pub element_at : Start → Valuation → ℕ → Option Element → Bool
element_at s u k None = false
element_at s u k (Some e) = element_shows (s.state u k e) u e

abbrev pub read_shows : Start → Valuation → ReadBit → ReadPort → Option Edge → Bool
read_shows s u x port None = bit_of (s.word u x.mem (shown_number u port.address)) x.bit
read_shows s u x port (Some edge) = s.read u x port edge

abbrev pub port_at : Start → Valuation → ReadBit → Option ReadPort → Bool
port_at s u x None = false
port_at s u x (Some port) = read_shows s u x port port.clock

abbrev pub memory_at : Start → Valuation → ReadBit → Option Memory → Bool
memory_at s u x None = false
memory_at s u x (Some memory) = port_at s u x (slice_get memory.reads x.port)

-- what a driver gives to its net
abbrev pub shows : Parts → Start → (ℕ → Bool) → Valuation → ℕ → Driver → Bool
shows p s i u n (Constant b) = b
shows p s i u n Input = i n
shows p s i u n (Elem k) = element_at s u k.place (slice_get p.elements k.place)
shows p s i u n (Read m r b) = memory_at s u (read_bit n m.place r b) (slice_get p.memories m.place)

-- each net has what its driver gives
pub record IsFixed (p : Parts) (s : Start) (i : ℕ → Bool) (u : Valuation) : Type 0 where
  pub fixed : (n : ℕ) → n < net_count p → u.net n ≡ shows p s i u n (driver p n)

-- two valuations agree at a node: on the net, or on the clock of the write port
abbrev pub Same : Parts → Valuation → Valuation → NodeId → Type 0
Same p u w (Net n) = u.net n.place ≡ w.net n.place
Same p u w (Write m k) =
    (memory : Memory) (port : WritePort)
    → slice_get p.memories m.place ≡ Some memory
    → slice_get memory.writes k ≡ Some port
    → u.net port.clock.place ≡ w.net port.clock.place

-- states, words and bits of clocked ports look at no more than what the nets depend on
pub record IsLocal (p : Parts) (s : Start) : Type 0 where
  pub state : (u w : Valuation) (k : ℕ) (e : Element) → Each (Same p u w) (map Net (needs e)) → s.state u k e ≡ s.state w k e
  pub word : (u w : Valuation) (m a : ℕ) (memory : Memory) → slice_get p.memories m ≡ Some memory
      → ((j : ℕ) (port : WritePort) → slice_get memory.writes j ≡ Some port → u.net port.clock.place ≡ w.net port.clock.place)
      → s.word u m a ≡ s.word w m a
  pub read : (u w : Valuation) (x : ReadBit) (port : ReadPort) (edge : Edge) → u.net edge.net.place ≡ w.net edge.net.place
      → s.read u x port edge ≡ s.read w x port edge

-- ## The same dependencies give the same value

abbrev force : Bool → Bool → Option Bool
force clear preset = if clear then Some false else if preset then Some true else None

module _ (p : Parts) (u w : Valuation) where
  pub values_same : (nets : List NetId) → Each (Same p u w) (map Net nets) → values u nets ≡ values w nets
  values_same [] h = refl
  values_same (n ∷ nets) h = ap (λ b. b ∷ values u nets) h.0 ∙ ap (λ bs. w.net n.place ∷ bs) (values_same nets h.1)

  acts_same : (level : Level) → u.net level.net.place ≡ w.net level.net.place → acts u level ≡ acts w level
  acts_same level e = ap (λ b. if level.high then b else not b) e

  pub forced_same : (clear preset : Option Level) → Each (Same p u w) (map Net (reset_nets clear preset)) → forced clear preset u ≡ forced clear preset w
  forced_same None None h = refl
  forced_same (Some c) None h = ap (λ b. force b false) (acts_same c h.0)
  forced_same None (Some q) h = ap (λ b. force false b) (acts_same q h.0)
  forced_same (Some c) (Some q) h = ap (λ b. force b (acts u q)) (acts_same c h.0) ∙ ap (λ b. force (acts w c) b) (acts_same q h.1.0)

  abbrev open_value : Bool → Bool → Option Bool
  open_value gate feed = if gate then Some feed else None

  pub passed_same : (l : Latch) → Each (Same p u w) (map Net (l.gate.net ∷ l.feed ∷ reset_nets l.clear l.preset)) → passed l u ≡ passed l w
  passed_same l h =
      ap (λ o. option_or o (open_value (acts u l.gate) (u.net l.feed.place))) (forced_same l.clear l.preset h.1.1)
      ∙ ap (λ b. option_or (forced l.clear l.preset w) (open_value b (u.net l.feed.place))) (acts_same l.gate h.0)
      ∙ ap (λ b. option_or (forced l.clear l.preset w) (open_value (acts w l.gate) b)) h.1.0

  element_same : (state other : Bool) → state ≡ other → (e : Element) → Each (Same p u w) (map Net (needs e)) → element_shows state u e ≡ element_shows other w e
  element_same state other same (element.Gate op inputs output) h = ap (op_value op) (values_same inputs h)
  element_same state other same (element.Flop f) h =
      ap (λ o. unwrap_or o state) (forced_same f.clear f.preset h.1) ∙ ap (unwrap_or (forced f.clear f.preset w)) same
  element_same state other same (element.Latch l) h =
      ap (λ o. unwrap_or o state) (passed_same l h) ∙ ap (unwrap_or (passed l w)) same
  element_same state other same (element.Memory m) h = refl

  module _ (s : Start) (local : IsLocal p s) where
    at_same : (k : ℕ) (o : Option Element) → Each (Same p u w) (map Net (needs_at o)) → element_at s u k o ≡ element_at s w k o
    at_same k None h = refl
    at_same k (Some e) h = element_same (s.state u k e) (s.state w k e) (local.state u w k e h) e h

    bit_same : (m : MemId) (memory : Memory) → slice_get p.memories m.place ≡ Some memory → (n r b : ℕ) (port : ReadPort) (c : Option Edge) → Each (Same p u w) (port_needs m memory port.address c) → read_shows s u (read_bit n m.place r b) port c ≡ read_shows s w (read_bit n m.place r b) port c
    bit_same m memory at n r b port (Some edge) h = local.read u w (read_bit n m.place r b) port edge h.0
    bit_same m memory at n r b port None h =
        let address : values u port.address ≡ values w port.address =
        values_same port.address (each_left (Same p u w) (map Net port.address) (write_nodes m memory) h) in
        let nodes : Each (Same p u w) (write_nodes m memory) =
        each_right (Same p u w) (map Net port.address) (write_nodes m memory) h in
        ap (λ bs. bit_of (s.word u m.place (number bs)) b) address
        ∙ ap (λ x. bit_of x b)
        (local.word u w m.place (shown_number w port.address) memory at
        (λ j q in_port. each_write (Same p u w) m 0 memory.writes j j q nodes in_port (omega arith) memory q at in_port))

    port_same : (m : MemId) (memory : Memory) → slice_get p.memories m.place ≡ Some memory → (n r b : ℕ) (o : Option ReadPort) → Each (Same p u w) (read_needs m memory o) → port_at s u (read_bit n m.place r b) o ≡ port_at s w (read_bit n m.place r b) o
    port_same m memory at n r b None h = refl
    port_same m memory at n r b (Some port) h = bit_same m memory at n r b port port.clock h

    memory_same : (m : MemId) (n r b : ℕ) (o : Option Memory) → slice_get p.memories m.place ≡ o → Each (Same p u w) (read_needs_at m o r) → memory_at s u (read_bit n m.place r b) o ≡ memory_at s w (read_bit n m.place r b) o
    memory_same m n r b None at h = refl
    memory_same m n r b (Some memory) at h = port_same m memory at n r b (slice_get memory.reads r) h

    pub shows_same : (i : ℕ → Bool) (n : ℕ) (d : Driver) → Each (Same p u w) (driver_needs p d) → shows p s i u n d ≡ shows p s i w n d
    shows_same i n (Constant b) h = refl
    shows_same i n Input h = refl
    shows_same i n (Elem k) h = at_same k.place (slice_get p.elements k.place) h
    shows_same i n (Read m r b) h = memory_same m n r b (slice_get p.memories m.place) refl h

  pub clock_same : (m : MemId) (k : ℕ) → Each (Same p u w) (write_needs_at m k (slice_get p.memories m.place)) → Same p u w (Write m k)
  clock_same m k h memory port at in_port =
      let inner : Each (Same p u w) (write_needs m k (slice_get memory.writes k)) =
      subst (λ (o : Option Memory). Each (Same p u w) (write_needs_at m k o)) at h in
      let deep : Each (Same p u w) (write_needs m k (Some port)) =
      subst (λ (o : Option WritePort). Each (Same p u w) (write_needs m k o)) in_port inner in
      deep.0

-- ## Equations by element and by read bit

abbrev pub ElementShows : Bool → Valuation → Element → Type 0
ElementShows state u (element.Gate op inputs output) = u.net output.place ≡ op_value op (values u inputs)
ElementShows state u (element.Flop f) = u.net f.q.place ≡ unwrap_or (forced f.clear f.preset u) state
ElementShows state u (element.Latch l) = u.net l.q.place ≡ unwrap_or (passed l u) state
ElementShows state u (element.Memory m) = Unit {0}

pub record Equations (p : Parts) (s : Start) (i : ℕ → Bool) (u : Valuation) : Type 0 where
  pub constants : ConstantsHold p u
  pub inputs : (n : ℕ) → n < net_count p → driver p n ≡ Input → u.net n ≡ i n
  pub elements : (k : ℕ) (e : Element) → slice_get p.elements k ≡ Some e → ElementShows (s.state u k e) u e
  pub reads : (m r b : ℕ) (port : ReadPort) (n : NetId) → IsReadBit p m r b port n
      → u.net n.place ≡ read_shows s u (read_bit n.place m r b) port port.clock

module _ (p : Parts) (s : Start) (i : ℕ → Bool) (u : Valuation) where
  output_shows : (state : Bool) (n : ℕ) (e : Element) → drives n e ≡ true → ElementShows state u e → u.net n ≡ element_shows state u e
  output_shows state n (element.Gate op inputs output) out h = ap u.net (sym (number_same output.place n out)) ∙ h
  output_shows state n (element.Flop f) out h = ap u.net (sym (number_same f.q.place n out)) ∙ h
  output_shows state n (element.Latch l) out h = ap u.net (sym (number_same l.q.place n out)) ∙ h
  output_shows state n (element.Memory m) out h = no out

  memory_shows : (n m r b : ℕ) (memory : Memory) (port : ReadPort) → slice_get p.memories m ≡ Some memory → slice_get memory.reads r ≡ Some port → shows p s i u n (Read (record { place = m }) r b) ≡ read_shows s u (read_bit n m r b) port port.clock
  memory_shows n m r b memory port at in_port =
      ap (memory_at s u (read_bit n m r b)) at ∙ ap (port_at s u (read_bit n m r b)) in_port

  pub fixed_from : Equations p s i u → IsFixed p s i u
  fixed_from h = record { fixed = λ n small. go n small (driver p n) refl }
    where
      go : (n : ℕ) → n < net_count p → (d : Driver) → driver p n ≡ d → u.net n ≡ shows p s i u n d
      go n small (Constant b) e = h.constants n b small e
      go n small Input e = h.inputs n small e
      go n small (Elem k) e =
          let x = driver_is_element p n k e in
          output_shows (s.state u k.place x.0) n x.0 x.2 (h.elements k.place x.0 x.1) ∙ ap (element_at s u k.place) (sym x.1)
      go n small (Read m r b) e =
          let x = driver_is_read_bit p n m r b e in
          let is : IsReadBit p m.place r b x.1 x.2 = record { memory = x.0; is_memory = x.3; is_port = x.4; is_bit = x.5 } in
          ap u.net (sym x.6)
          ∙ h.reads m.place r b x.1 x.2 is
          ∙ ap (λ (k : ℕ). read_shows s u (read_bit k m.place r b) x.1 x.1.clock) x.6
          ∙ sym (memory_shows n m.place r b x.0 x.1 x.3 x.4)

  module _ (d : IsDesign p) (f : IsFixed p s i u) where
    named_shows : (k n : ℕ) (e : Element) → slice_get p.elements k ≡ Some e → drives n e ≡ true → u.net n ≡ element_shows (s.state u k e) u e
    named_shows k n e at out =
        let h = element_is_driver p k n e d at out in
        f.fixed n h.0 ∙ ap (shows p s i u n) h.1 ∙ ap (element_at s u k) at

    element_equation : (k : ℕ) (e : Element) → slice_get p.elements k ≡ Some e → ElementShows (s.state u k e) u e
    element_equation k (element.Gate op inputs output) at =
        named_shows k output.place (element.Gate op inputs output) at (same_number output.place output.place refl)
    element_equation k (element.Flop x) at = named_shows k x.q.place (element.Flop x) at (same_number x.q.place x.q.place refl)
    element_equation k (element.Latch l) at = named_shows k l.q.place (element.Latch l) at (same_number l.q.place l.q.place refl)
    element_equation k (element.Memory m) at = tt

    read_equation : (m r b : ℕ) (port : ReadPort) (n : NetId) → IsReadBit p m r b port n → u.net n.place ≡ read_shows s u (read_bit n.place m r b) port port.clock
    read_equation m r b port n is =
        let h = read_bit_is_driver p m r b is.memory port n d is.is_memory is.is_port is.is_bit in
        f.fixed n.place h.0
        ∙ ap (shows p s i u n.place) h.1
        ∙ memory_shows n.place m r b is.memory port is.is_memory is.is_port

    pub equations_from : Equations p s i u
    equations_from =
        record {
          constants = λ n b small e. f.fixed n small ∙ ap (shows p s i u n) e;
          inputs = λ n small e. f.fixed n small ∙ ap (shows p s i u n) e;
          elements = element_equation;
          reads = read_equation;
        }

-- ## Two solutions agree

input_change : (p : Parts) (s : Start) (i j : ℕ → Bool) (w : Valuation) (n : ℕ) (d : Driver) → (d ≡ Input → i n ≡ j n) → shows p s i w n d ≡ shows p s j w n d
input_change p s i j w n (Constant b) h = refl
input_change p s i j w n Input h = h refl
input_change p s i j w n (Elem k) h = refl
input_change p s i j w n (Read m r b) h = refl

-- Two solutions, of equations with inputs that may differ, agree on nodes with a rank that have a
-- property which dependencies have too, where the inputs with the property are the same.
module _ (p : Parts) (s : Start) (local : IsLocal p s) (i j : ℕ → Bool) (u w : Valuation) (first : IsFixed p s i u) (second : IsFixed p s j w)
    (Good : NodeId → Type 0) (closed : (a b : NodeId) → Good a → Contains (dependencies p a) b → Good b)
    (ranged : (n : NetId) → Good (Net n) → n.place < net_count p)
    (inputs : (n : NetId) → Good (Net n) → driver p n.place ≡ Input → i n.place ≡ j n.place) where
  agree : (a : NodeId) → Good a → Each (Same p u w) (dependencies p a) → Same p u w a
  agree (Net n) good h =
      first.fixed n.place (ranged n good)
      ∙ shows_same p u w s local i n.place (driver p n.place) h
      ∙ input_change p s i j w n.place (driver p n.place) (inputs n good)
      ∙ sym (second.fixed n.place (ranged n good))
  agree (Write m k) good h = clock_same p u w m k h

  pub solutions_agree : (a : NodeId) (k : ℕ) → HasRank p a k → Good a → Same p u w a
  solutions_agree _ _ (ranked a k rank deps e) good =
      agree a good (each_of (Same p u w) (dependencies p a) (λ b h. solutions_agree b (rank b) (deps b h) (closed a b good h)))
