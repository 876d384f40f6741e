-- A pass over the nodes in order gives each net what its driver gives, since what a node depends on does
-- not change any more when the node has had its turn.
use Rattle.std.proofs.Common.{◌≡◌, ◌<◌, ◌^◌, ℕ, suc, Bool, List, [], map, length, refl, sym, ap, subst, ◌∙◌, arith, if◌then◌else◌}
use Rattle.std.specs.Prelude.{Option, Some, None, slice_get, unwrap_or, Contains}
use Rattle.id_arena.specs.declared.keys.MemId.{MemId}
use Rattle.design_core.specs.declared.element.Edge.{Edge}
use Rattle.design_core.specs.declared.element.Element.{Element}
use Rattle.design_core.specs.declared.element.Element.TheVariants as element
use Rattle.design_core.specs.declared.element.Memory.{Memory}
use Rattle.design_core.specs.declared.element.ReadPort.{ReadPort}
use Rattle.design_core.specs.declared.element.WritePort.{WritePort}
use Rattle.design_core.specs.declared.element.Driver.{Driver}
use Rattle.design_core.specs.declared.element.Driver.TheVariants.{Constant, Input, Elem, Read}
use Rattle.design_core.specs.declared.node.NodeId.{NodeId}
use Rattle.design_core.specs.declared.node.NodeId.TheVariants.{Net, Write}
use Rattle.design_core.specs.declared.parts.Parts.{Parts}
use Rattle.design_core.specs.Operation.{op_value, number, bit_of}
use Rattle.design_core.specs.Design.{IsDesign, driver}
use Rattle.design_core.specs.Valuation.{Valuation, shown_number, forced}
use Rattle.design_core.specs.Dependency.{dependencies, driver_needs, needs, needs_at, port_needs, read_needs, read_needs_at, write_nodes, write_needs, write_needs_at}
use Rattle.history_law.proofs.Ranges.{Each, each_of, each_left, each_right, each_write}
use Rattle.history_law.proofs.Equations.{Same, values_same, forced_same, passed_same}
use Rattle.history_law.proofs.Afterwards.{edge_same, address_bound}
use Rattle.settled_model.specs.declared.turn.Turn.{Turn}
use Rattle.settled_model.specs.Clocked.{port_among, port_of, clock_of}
use Rattle.settled_model.specs.Passing.{counts, kept, element_value, value_at, bit_value, driver_value}
use Rattle.settled_model.proofs.Ranges.{missing}

-- ## The same dependencies give the same value

module _ (p : Parts) (turn : Turn) (v u w : Valuation) where
  kept_same : (e : Element) → Each (Same p u w) (map Net (needs e)) → kept turn v u e ≡ kept turn v w e
  kept_same (element.Gate op inputs output) h = refl
  kept_same (element.Flop f) h =
      ap (λ b. if counts turn b then v.net f.feed.place else v.net f.q.place) (edge_same v u w f.clock f.rise h.0)
  kept_same (element.Latch l) h = refl
  kept_same (element.Memory m) h = refl

  element_same : (e : Element) → Each (Same p u w) (map Net (needs e)) → element_value turn v u e ≡ element_value turn v w e
  element_same (element.Gate op inputs output) h = ap (op_value op) (values_same p u w inputs h)
  element_same (element.Flop f) h =
      ap (λ o. unwrap_or o (kept turn v u (element.Flop f))) (forced_same p u w f.clear f.preset h.1)
      ∙ ap (unwrap_or (forced f.clear f.preset w)) (kept_same (element.Flop f) h)
  element_same (element.Latch l) h = ap (λ o. unwrap_or o (v.net l.q.place)) (passed_same p u w l h)
  element_same (element.Memory m) h = refl

  at_same : (o : Option Element) → Each (Same p u w) (map Net (needs_at o)) → value_at turn v u o ≡ value_at turn v w o
  at_same None h = refl
  at_same (Some e) h = element_same e h

  module _ (words : ℕ → ℕ) (m : MemId) (n r b : ℕ) (taken : Bool) where
    bit_same : (memory : Memory) (port : ReadPort) (clock : Option Edge) → Each (Same p u w) (port_needs m memory port.address clock) → bit_value turn words v u n b taken (Some port) clock ≡ bit_value turn words v w n b taken (Some port) clock
    bit_same memory port None h =
        ap (λ bs. bit_of (words (number bs)) b)
        (values_same p u w port.address (each_left (Same p u w) (map Net port.address) (write_nodes m memory) h))
    bit_same memory port (Some edge) h =
        ap (λ x. if counts turn x then taken else v.net n) (edge_same v u w edge.net edge.rise h.0)

    port_same : (memory : Memory) (o : Option ReadPort) → Each (Same p u w) (read_needs m memory o) → bit_value turn words v u n b taken o (clock_of o) ≡ bit_value turn words v w n b taken o (clock_of o)
    port_same memory None h = refl
    port_same memory (Some port) h = bit_same memory port port.clock h

    read_same : (o : Option Memory) → Each (Same p u w) (read_needs_at m o r)
        → bit_value turn words v u n b taken (port_among r o) (clock_of (port_among r o)) ≡ bit_value turn words v w n b taken (port_among r o) (clock_of (port_among r o))
    read_same None h = refl
    read_same (Some memory) h = port_same memory (slice_get memory.reads r) h

-- a driver gives the same where all on which it depends is the same
pub gives_same : (p : Parts) (turn : Turn) (inputs : ℕ → Bool) (words : ℕ → ℕ → ℕ) (v u w : Valuation) (n : ℕ)
    → ((b : NodeId) → Contains (dependencies p (Net (record { place = n }))) b → Same p u w b)
    → driver_value p turn inputs words v u n (driver p n) ≡ driver_value p turn inputs words v w n (driver p n)
gives_same p turn inputs words v u w n h =
    go (driver p n) (each_of (Same p u w) (dependencies p (Net (record { place = n }))) h)
  where
    go : (d : Driver) → Each (Same p u w) (driver_needs p d) → driver_value p turn inputs words v u n d ≡ driver_value p turn inputs words v w n d
    go (Constant b) each = refl
    go Input each = refl
    go (Elem k) each = at_same p turn v u w (slice_get p.elements k.place) each
    go (Read m r b) each = read_same p turn v u w (words m.place) m n r b (inputs n) (slice_get p.memories m.place) each

-- it gives the same where what is put in the place of its net is the same
pub same_inputs : (p : Parts) (turn : Turn) (i j : ℕ → Bool) (words : ℕ → ℕ → ℕ) (v u : Valuation) (n : ℕ) (d : Driver) → i n ≡ j n → driver_value p turn i words v u n d ≡ driver_value p turn j words v u n d
same_inputs p turn i j words v u n (Constant b) e = refl
same_inputs p turn i j words v u n Input e = e
same_inputs p turn i j words v u n (Elem k) e = refl
same_inputs p turn i j words v u n (Read m r b) e =
    ap (λ x. bit_value turn (words m.place) v u n b x (port_of p m.place r) (clock_of (port_of p m.place r))) e

-- it gives the same where the words are the same that it reads; a port with a clock reads none
module _ (p : Parts) (d : IsDesign p) (turn : Turn) (inputs : ℕ → Bool) (words rest : ℕ → ℕ → ℕ) (v u : Valuation) (n : ℕ) where
  module _ (m : MemId) (r b : ℕ) where
    same_bit : (memory : Memory) (port : ReadPort) (clock : Option Edge) → slice_get p.memories m.place ≡ Some memory → slice_get memory.reads r ≡ Some port
        → ((a : ℕ) → clock ≡ None → a < 2 ^ memory.address_bits → words m.place a ≡ rest m.place a)
        → bit_value turn (words m.place) v u n b (inputs n) (Some port) clock ≡ bit_value turn (rest m.place) v u n b (inputs n) (Some port) clock
    same_bit memory port None at in_port h =
        ap (λ x. bit_of x b) (h (shown_number u port.address) refl (address_bound p u m.place r memory port d at in_port))
    same_bit memory port (Some edge) at in_port h = refl

    same_port : (memory : Memory) → slice_get p.memories m.place ≡ Some memory → (o : Option ReadPort) → slice_get memory.reads r ≡ o
        → ((port : ReadPort) (a : ℕ) → slice_get memory.reads r ≡ Some port → port.clock ≡ None → a < 2 ^ memory.address_bits → words m.place a ≡ rest m.place a)
        → bit_value turn (words m.place) v u n b (inputs n) o (clock_of o) ≡ bit_value turn (rest m.place) v u n b (inputs n) o (clock_of o)
    same_port memory at None in_port h = refl
    same_port memory at (Some port) in_port h =
        same_bit memory port port.clock at in_port (λ a none low. h port a in_port none low)

    same_read : (o : Option Memory) → slice_get p.memories m.place ≡ o
        → ((memory : Memory) (port : ReadPort) (a : ℕ) → slice_get p.memories m.place ≡ Some memory → slice_get memory.reads r ≡ Some port → port.clock ≡ None → a < 2 ^ memory.address_bits → words m.place a ≡ rest m.place a)
        → bit_value turn (words m.place) v u n b (inputs n) (port_among r o) (clock_of (port_among r o)) ≡ bit_value turn (rest m.place) v u n b (inputs n) (port_among r o) (clock_of (port_among r o))
    same_read None at h = refl
    same_read (Some memory) at h =
        same_port memory at (slice_get memory.reads r) refl (λ port a in_port none low. h memory port a at in_port none low)

  pub same_words : (x : Driver)
      → ((m : MemId) (r b : ℕ) (memory : Memory) (port : ReadPort) (a : ℕ) → x ≡ Read m r b → slice_get p.memories m.place ≡ Some memory → slice_get memory.reads r ≡ Some port → port.clock ≡ None → a < 2 ^ memory.address_bits → words m.place a ≡ rest m.place a)
      → driver_value p turn inputs words v u n x ≡ driver_value p turn inputs rest v u n x
  same_words (Constant b) h = refl
  same_words Input h = refl
  same_words (Elem k) h = refl
  same_words (Read m r b) h =
      same_read m r b (slice_get p.memories m.place) refl (λ memory port a at in_port none low. h m r b memory port a refl at in_port none low)

-- ## What depends on write ports, and on what they depend

module _ (p : Parts) where
  among_itself : (nodes : List NodeId) → Each (λ b. Contains nodes b) nodes
  among_itself nodes = each_of (λ b. Contains nodes b) nodes (λ b has. has)

  -- a write node depends on its clock
  pub needs_clock : (m : MemId) (k : ℕ) (memory : Memory) (port : WritePort) → slice_get p.memories m.place ≡ Some memory → slice_get memory.writes k ≡ Some port → Contains (dependencies p (Write m k)) (Net port.clock)
  needs_clock m k memory port at in_port =
      let found : write_needs_at m k (slice_get p.memories m.place) ≡ write_needs m k (Some port) =
      ap (write_needs_at m k) at ∙ ap (write_needs m k) in_port in
      (subst (λ (nodes : List NodeId). Each (λ b. Contains (dependencies p (Write m k)) b) nodes) found (among_itself (dependencies p (Write m k)))).0

  -- a write node but the first depends on the one before
  pub needs_before : (m : MemId) (k : ℕ) (memory : Memory) → slice_get p.memories m.place ≡ Some memory → suc k < length memory.writes → Contains (dependencies p (Write m (suc k))) (Write m k)
  needs_before m k memory at low = go (slice_get memory.writes (suc k)) refl
    where
      go : (o : Option WritePort) → slice_get memory.writes (suc k) ≡ o → Contains (dependencies p (Write m (suc k))) (Write m k)
      go None in_port = absurd (missing memory.writes (suc k) low in_port)
      go (Some port) in_port =
          let found : write_needs_at m (suc k) (slice_get p.memories m.place) ≡ write_needs m (suc k) (Some port) =
          ap (write_needs_at m (suc k)) at ∙ ap (write_needs m (suc k)) in_port in
          (subst (λ (nodes : List NodeId). Each (λ b. Contains (dependencies p (Write m (suc k))) b) nodes) found (among_itself (dependencies p (Write m (suc k))))).1.0

  -- a bit of a read port without a clock depends on each write node of its memory
  pub needs_writes : (n : ℕ) (m : MemId) (r b k : ℕ) (memory : Memory) (read : ReadPort) (port : WritePort) → driver p n ≡ Read m r b → slice_get p.memories m.place ≡ Some memory → slice_get memory.reads r ≡ Some read → read.clock ≡ None → slice_get memory.writes k ≡ Some port
      → Contains (dependencies p (Net (record { place = n }))) (Write m k)
  needs_writes n m r b k memory read port e at in_read none in_port =
      let found : driver_needs p (driver p n) ≡ port_needs m memory read.address None =
      ap (driver_needs p) e ∙ ap (λ (o : Option Memory). read_needs_at m o r) at ∙ ap (read_needs m memory) in_read ∙ ap (port_needs m memory read.address) none in
      let all : Each (λ b. Contains (dependencies p (Net (record { place = n }))) b) (port_needs m memory read.address None) =
      subst (λ (nodes : List NodeId). Each (λ b. Contains (dependencies p (Net (record { place = n }))) b) nodes) found (among_itself (dependencies p (Net (record { place = n })))) in
      let writes : Each (λ b. Contains (dependencies p (Net (record { place = n }))) b) (write_nodes m memory) =
      each_right (λ b. Contains (dependencies p (Net (record { place = n }))) b) (map Net read.address) (write_nodes m memory) all in
      each_write (λ b. Contains (dependencies p (Net (record { place = n }))) b) m 0 memory.writes k k port writes in_port (omega arith)
