-- A memory's ports have one slot each, where two plans agree on all that was taken before them.
use Rattle.std.proofs.Common.{◌≡◌, ◌<◌, ◌+◌, ℕ, zero, suc, Bool, true, false, max, Option, Some, None, List, refl, sym, ◌∙◌, ap, subst, arith}
use Rattle.std.specs.Prelude.{slice_get, option_and_then, position, Contains}
use Rattle.std.proofs.lemmas.List.Elements.{Contains-append_left, Contains-append_right}
use Rattle.id_arena.specs.declared.keys.MemId.{MemId}
use Rattle.id_arena.specs.declared.keys.NetId.{NetId}
use Rattle.design_core.specs.declared.element.Edge.{Edge}
use Rattle.design_core.specs.declared.element.Element.{Element}
use Rattle.design_core.specs.declared.element.Element.TheVariants as element
use Rattle.design_core.specs.declared.element.Memory.{Memory}
use Rattle.design_core.specs.declared.element.ReadPort.{ReadPort}
use Rattle.design_core.specs.declared.element.WritePort.{WritePort}
use Rattle.design_core.specs.declared.node.NodeId.TheVariants.{Net, Write}
use Rattle.design_core.specs.Design.{is_memory, clock_nets, read_reads}
use Rattle.slot_schedule.specs.Settings.{Setting, chip_of, memory_chip}
use Rattle.slot_schedule.specs.Settings.HasPin.{write_pin, read_pin}
use Rattle.slot_schedule.specs.Deliveries.{IsSetting}
use Rattle.facts.proofs.Counting.{positioned}
use Rattle.facts.proofs.Tests.{number_same}
use Rattle.slot_schedule.specs.ListPlan.{Plan, Task, CanRead, PortSlots, IsFetched, IsStored, ready_at, latest, clocked, after_write}
use Rattle.slot_schedule.specs.ListPlan.Task.{Fetch}
use Rattle.slot_schedule.specs.Frames.{read_clock}
use Rattle.slot_schedule.proofs.Agreement.{SamePort, SameNode, latest_same, least_same, ready_same}

-- the element of a memory, on the memory's chip
pub record MemoryPlace (s : Setting) (m : MemId) (c : ℕ) : Type 0 where
  pub number : ℕ
  pub is : slice_get s.design.elements number ≡ Some (element.Memory m)
  pub placed : chip_of s number ≡ Some c

memory_is : (x : Element) (m : MemId) → is_memory m.place x ≡ true → x ≡ element.Memory m
memory_is (element.Gate op inputs output) m e = cc
memory_is (element.Flop f) m e = cc
memory_is (element.Latch l) m e = cc
memory_is (element.Memory k) m e = ap (λ (i : ℕ). element.Memory (record { place = i })) (number_same k.place m.place e)

pub memory_place : (s : Setting) (m : MemId) (c : ℕ) → memory_chip s m ≡ Some c → MemoryPlace s m c
memory_place s m c is = go (position (is_memory m.place) s.design.elements) refl is
  where
    go : (o : Option ℕ) → position (is_memory m.place) s.design.elements ≡ o → option_and_then (chip_of s) o ≡ Some c → MemoryPlace s m c
    go None at e = cc
    go (Some k) at e =
        let f = positioned (is_memory m.place) s.design.elements k at in
        record { number = k; is = f.1 ∙ ap (λ (x : Element). Some x) (memory_is f.0 m f.2); placed = e }

module _ (s : Setting) (ok : IsSetting s) (m : MemId) (c : ℕ) (memory : Memory) (port : ReadPort) (past : List Task) where
  can_too : (p q : Plan) → latest (ready_at s p c) port.address ≡ latest (ready_at s q c) port.address
      → ((k : ℕ) → s.inside (Write m k) ≡ true → p.write m k ≡ q.write m k)
      → ((r : ℕ) → Contains past (Fetch m r) → p.read m r ≡ q.read m r)
      → (t : ℕ) → CanRead s p past m c memory port t → CanRead s q past m c memory port t
  can_too p q ready writes reads t can = record {
    address = let e = can.address in omega (arith, ready);
    clocks = can.clocks;
    writes = λ k on. subst (λ (w : ℕ). w < t) (writes k on) (can.writes k on);
    free = λ r taken is. can.free r taken (reads r taken ∙ is);
  }

module _ (s : Setting) (ok : IsSetting s) (p q : Plan) (m : MemId) (r c : ℕ) (memory : Memory) (port : ReadPort) (past : List Task)
    (here : slice_get s.design.memories m.place ≡ Some memory) (through : slice_get memory.reads r ≡ Some port) (place : MemoryPlace s m c)
    (reads : (j : ℕ) → Contains past (Fetch m j) → p.read m j ≡ q.read m j)
    (writes : port.clock ≡ None → (k : ℕ) → s.inside (Write m k) ≡ true → p.write m k ≡ q.write m k)
    (address : port.clock ≡ None → (i : NetId) → Contains port.address i → s.inside (Net i) ≡ true → SameNode s p q (Net i))
    (clock : (edge : Edge) → port.clock ≡ Some edge → s.inside (Net edge.net) ≡ true → SameNode s p q (Net edge.net)) where
  clock_is : read_clock s m r ≡ port.clock
  clock_is = rw (here, through) refl

  pub port_same : PortSlots s p past m r c memory port port.clock → PortSlots s q past m r c memory port port.clock → SamePort s p q m r
  port_same a b = go port.clock refl a b
    where
      go : (o : Option Edge) → port.clock ≡ o → PortSlots s p past m r c memory port o → PortSlots s q past m r c memory port o → SamePort s p q m r
      go None none x y =
          let ready = latest_same (ready_at s p c) (ready_at s q c) port.address
          (λ (i : NetId) (h : Contains port.address i). ready_same s ok p q c place.number i place.placed
          (read_pin m memory r port place.is here through (Contains-append_right (clock_nets port.clock) port.address i h)) (address none i h)) in
          record {
            read = least_same (CanRead s p past m c memory port) (CanRead s q past m c memory port)
                (can_too s ok m c memory port past p q ready (writes none) reads)
                (can_too s ok m c memory port past q p (sym ready) (λ k on. sym (writes none k on)) (λ j taken. sym (reads j taken)))
                (p.read m r) (q.read m r) x y;
            bits = λ edge is. let e = clock_is in cc;
          }
      go (Some edge) some x y =
          let pin : Contains (read_reads port) edge.net = Contains-append_left (clock_nets port.clock) port.address edge.net
          (subst (λ (o : Option Edge). Contains (clock_nets o) edge.net) (sym some) (0, omega arith, refl)) in
          let ready : ready_at s p c edge.net ≡ ready_at s q c edge.net = ready_same s ok p q c place.number edge.net place.placed
          (read_pin m memory r port place.is here through pin) (clock edge some) in
          let read : p.read m r ≡ q.read m r = x.0 ∙ sym y.0 in
          let bits : p.bits m r ≡ q.bits m r = x.1 ∙ ap (λ t. max (ready_at s p c edge.net) (t + 1)) read ∙ ap (λ t. max t (q.read m r + 1)) ready ∙ sym y.1 in
          record { read = read; bits = λ other is. bits }

-- a read port has its slots, where those before it have theirs
module _ (s : Setting) (ok : IsSetting s) (p q : Plan) (m : MemId) (r : ℕ) (past : List Task)
    (reads : (j : ℕ) → Contains past (Fetch m j) → p.read m j ≡ q.read m j)
    (writes : (memory : Memory) (port : ReadPort) → slice_get s.design.memories m.place ≡ Some memory → slice_get memory.reads r ≡ Some port
    → port.clock ≡ None → (k : ℕ) → s.inside (Write m k) ≡ true → p.write m k ≡ q.write m k)
    (address : (memory : Memory) (port : ReadPort) → slice_get s.design.memories m.place ≡ Some memory → slice_get memory.reads r ≡ Some port
    → port.clock ≡ None → (i : NetId) → Contains port.address i → s.inside (Net i) ≡ true → SameNode s p q (Net i))
    (clock : (memory : Memory) (port : ReadPort) → slice_get s.design.memories m.place ≡ Some memory → slice_get memory.reads r ≡ Some port
    → (edge : Edge) → port.clock ≡ Some edge → s.inside (Net edge.net) ≡ true → SameNode s p q (Net edge.net)) where
  pub fetched_same : IsFetched s p past m r → IsFetched s q past m r → SamePort s p q m r
  fetched_same a b =
      port_same s ok p q m r a.chip a.memory a.port past a.here a.through (memory_place s m a.chip a.placed) reads
      (writes a.memory a.port a.here a.through) (address a.memory a.port a.here a.through) (clock a.memory a.port a.here a.through)
      a.slots (moved b.memory b.port b.chip memory_one port_one chip_one b.slots)
    where
      memory_one : b.memory ≡ a.memory
      memory_one = let e = a.here in let f = b.here in cc

      port_one : b.port ≡ a.port
      port_one =
          let f : slice_get a.memory.reads r ≡ Some b.port = subst (λ (k : Memory). slice_get k.reads r ≡ Some b.port) memory_one b.through in
          let e = a.through in cc

      chip_one : b.chip ≡ a.chip
      chip_one = let e = a.placed in let f = b.placed in cc

      moved : (memory : Memory) (port : ReadPort) (c : ℕ) → memory ≡ a.memory → port ≡ a.port → c ≡ a.chip
          → PortSlots s q past m r c memory port port.clock → PortSlots s q past m r a.chip a.memory a.port a.port.clock
      moved memory port c x y z slots =
          subst (λ (k : Memory). PortSlots s q past m r a.chip k a.port a.port.clock) x
          (subst (λ (k : ReadPort). PortSlots s q past m r a.chip memory k k.clock) y
          (subst (λ (k : ℕ). PortSlots s q past m r k memory port port.clock) z slots))

-- so has a write port
module _ (s : Setting) (ok : IsSetting s) (p q : Plan) (m : MemId) where
  after_same : (k : ℕ) → ((j : ℕ) → k ≡ suc j → s.inside (Write m j) ≡ true → p.write m j ≡ q.write m j) → after_write s p m k ≡ after_write s q m k
  after_same zero before = refl
  after_same (suc j) before = go (s.inside (Write m j)) refl
    where
      go : (b : Bool) → s.inside (Write m j) ≡ b → after_write s p m (suc j) ≡ after_write s q m (suc j)
      go false off = rw off refl
      go true on = rw on (ap (λ t. t + 1) (before j refl on))

  pub stored_same : (k : ℕ)
      → ((memory : Memory) (port : WritePort) → slice_get s.design.memories m.place ≡ Some memory → slice_get memory.writes k ≡ Some port
      → s.inside (Net port.clock) ≡ true → SameNode s p q (Net port.clock))
      → ((j : ℕ) → k ≡ suc j → s.inside (Write m j) ≡ true → p.write m j ≡ q.write m j)
      → IsStored s p m k → IsStored s q m k → p.write m k ≡ q.write m k
  stored_same k clock before a b =
      a.slot ∙ ap (λ t. max (clocked s a.memory.reads + 1) (max t (after_write s p m k))) ready
      ∙ ap (λ t. max (clocked s a.memory.reads + 1) (max (ready_at s q a.chip a.port.clock) t)) (after_same k before)
      ∙ sym moved
    where
      place : MemoryPlace s m a.chip
      place = memory_place s m a.chip a.placed

      ready : ready_at s p a.chip a.port.clock ≡ ready_at s q a.chip a.port.clock
      ready = ready_same s ok p q a.chip place.number a.port.clock place.placed
          (write_pin m a.memory k a.port place.is a.here a.through (0, omega arith, refl)) (clock a.memory a.port a.here a.through)

      memory_one : b.memory ≡ a.memory
      memory_one = let e = a.here in let f = b.here in cc

      port_one : b.port ≡ a.port
      port_one =
          let f : slice_get a.memory.writes k ≡ Some b.port = subst (λ (x : Memory). slice_get x.writes k ≡ Some b.port) memory_one b.through in
          let e = a.through in cc

      chip_one : b.chip ≡ a.chip
      chip_one = let e = a.placed in let f = b.placed in cc

      moved : q.write m k ≡ max (clocked s a.memory.reads + 1) (max (ready_at s q a.chip a.port.clock) (after_write s q m k))
      moved =
          b.slot ∙ ap (λ (x : Memory). max (clocked s x.reads + 1) (max (ready_at s q b.chip b.port.clock) (after_write s q m k))) memory_one
          ∙ ap (λ (x : WritePort). max (clocked s a.memory.reads + 1) (max (ready_at s q b.chip x.clock) (after_write s q m k))) port_one
          ∙ ap (λ (x : ℕ). max (clocked s a.memory.reads + 1) (max (ready_at s q x a.port.clock) (after_write s q m k))) chip_one
