-- Each value is ready before it is used, and no wire has two deliveries at a time.
use Rattle.std.proofs.Common.{◌≡◌, ◌⊎◌, ◌≤◌, ◌+◌, ℕ, zero, suc, Bool, true, false, Option, Some, List, [], ◌∷◌, ◌++◌, refl, ap, subst, arith}
use Rattle.std.specs.Prelude.{slice_get, Contains}
use Rattle.id_arena.specs.declared.keys.ElemId.{ElemId}
use Rattle.id_arena.specs.declared.keys.MemId.{MemId}
use Rattle.id_arena.specs.declared.keys.NetId.{NetId}
use Rattle.id_arena.specs.declared.wire.Wire.{Wire}
use Rattle.design_core.specs.declared.element.Driver.{Driver}
use Rattle.design_core.specs.declared.element.Driver.TheVariants.{Constant, Input, Elem, Read}
use Rattle.design_core.specs.declared.element.Edge.{Edge}
use Rattle.design_core.specs.declared.element.Element.{Element}
use Rattle.design_core.specs.declared.element.Element.TheVariants as element
use Rattle.design_core.specs.declared.element.Memory.{Memory}
use Rattle.design_core.specs.declared.element.ReadPort.{ReadPort}
use Rattle.design_core.specs.declared.element.WritePort.{WritePort}
use Rattle.design_core.specs.declared.node.NodeId.TheVariants.{Net}
use Rattle.design_core.specs.Design.{driver}
use Rattle.design_core.specs.Dependency.{needs}
use Rattle.board_model.specs.Trees.{IsParent}
use Rattle.slot_schedule.specs.Settings.{Setting, memory_chip, driver_home, home}
use Rattle.slot_schedule.specs.ListPlan.{Plan, Task, IsListPlan, IsPlanned, IsSettledBy, IsFetched, IsStored, ElementSlots, PortSlots, tasks, ready_at, ready_inside, latest}
use Rattle.slot_schedule.specs.ListPlan.Task.{Fetch, Settle, Store, Deliver}
use Rattle.slot_schedule.specs.Ordered.{IsUsed, used_in, ValuesAreReady, WiresCarryOne}
use Rattle.slot_schedule.specs.Ordered.IsUsed.{by_element, by_address, by_read_clock, by_write_clock, by_delivery}
use Rattle.slot_schedule.proofs.Offers.{parent_is}

-- a list is what stands before an element of it, the element, and what stands behind
pub record Split {X : Type 0} (xs : List X) (x : X) : Type 0 where
  pub past : List X
  pub rest : List X
  pub is : xs ≡ past ++ x ∷ rest

pub split_at : {X : Type 0} (xs : List X) (x : X) → Contains xs x → Split xs x
split_at [] x h = absurd (omega (arith, h.1))
split_at (y ∷ xs) x (zero, below, is) = record { past = []; rest = xs; is = ap (λ z. z ∷ xs) is }
split_at (y ∷ xs) x (suc k, below, is) =
    let deep = split_at xs x (k, omega (arith, below), is) in
    record { past = y ∷ deep.past; rest = deep.rest; is = ap (λ zs. y ∷ zs) deep.is }

-- no net is ready later than the latest
in_latest : (f : NetId → ℕ) (ns : List NetId) (i : NetId) → Contains ns i → f i ≤ latest f ns
in_latest f [] i h = absurd (omega (arith, h.1))
in_latest f (n ∷ ns) i (zero, below, is) = subst (λ (x : NetId). f x ≤ latest f (n ∷ ns)) is (omega arith)
in_latest f (n ∷ ns) i (suc k, below, is) = let deep = in_latest f ns i (k, omega (arith, below), is) in omega arith

module _ (s : Setting) (plan : Plan) (planned : IsListPlan s plan) where
  task_planned : (t : Task) → Contains (tasks s) t → (past : List Task) × IsPlanned s plan past t
  task_planned t h = let k = split_at (tasks s) t h in (k.past, planned k.past k.rest t k.is)

  element_uses : (n : NetId) (e : ElemId) (chip : ℕ) (is : Element) (i : NetId) → ElementSlots s plan n e chip is → Contains (needs is) i
      → ready_at s plan chip i ≤ used_in plan n e chip is
  element_uses n e chip (element.Gate op inputs output) i slots h = let low = in_latest (ready_at s plan chip) inputs i h in omega (arith, slots)
  element_uses n e chip (element.Flop f) i slots h =
      let low = in_latest (ready_at s plan chip) (needs (element.Flop f)) i h in let load = slots.0 in omega arith
  element_uses n e chip (element.Latch l) i slots h =
      let low = in_latest (ready_at s plan chip) (needs (element.Latch l)) i h in let load = slots.0 in let ready = slots.1 in omega arith
  element_uses n e chip (element.Memory m) i slots h = absurd slots

  -- a net with a home is ready when the plan says so
  at_most : (n : NetId) (chip : ℕ) (d : Driver) (start : ℕ) → driver_home s d ≡ Some start → ready_inside plan d n chip ≤ plan.ready n chip
  at_most n chip (Constant b) start at = omega arith
  at_most n chip Input start at = cc
  at_most n chip (Elem e) start at = omega arith
  at_most n chip (Read m r b) start at = omega arith

  sent_ready : (n : NetId) (chip start : ℕ) → home s n ≡ Some start → ready_at s plan chip n ≤ plan.ready n chip
  sent_ready n chip start at = go (s.inside (Net n)) refl
    where
      go : (b : Bool) → s.inside (Net n) ≡ b → ready_at s plan chip n ≤ plan.ready n chip
      go false off = rw off (omega arith)
      go true on = rw on (at_most n chip (driver s.design n.place) start at)

  -- what is known of a port's slots, at the memory and the chip that are named
  pub port_slots : (m : MemId) (r on : ℕ) (memory : Memory) (port : ReadPort) → slice_get s.design.memories m.place ≡ Some memory → slice_get memory.reads r ≡ Some port
      → memory_chip s m ≡ Some on → (past : List Task) → IsFetched s plan past m r → PortSlots s plan past m r on memory port port.clock
  port_slots m r on memory port here through placed past k =
      subst (λ (x : Memory). PortSlots s plan past m r on x port port.clock) memory_one
      (subst (λ (x : ReadPort). PortSlots s plan past m r on k.memory x x.clock) port_one
      (subst (λ (x : ℕ). PortSlots s plan past m r x k.memory k.port k.port.clock) chip_one k.slots))
    where
      memory_one : k.memory ≡ memory
      memory_one = let f = k.here in let g = here in cc

      port_one : k.port ≡ port
      port_one =
          let f : slice_get memory.reads r ≡ Some k.port = subst (λ (x : Memory). slice_get x.reads r ≡ Some k.port) memory_one k.through in
          let g = through in cc

      chip_one : k.chip ≡ on
      chip_one = let f = k.placed in let g = placed in cc

  write_slot : (m : MemId) (k on : ℕ) (memory : Memory) (port : WritePort) → slice_get s.design.memories m.place ≡ Some memory → slice_get memory.writes k ≡ Some port
      → memory_chip s m ≡ Some on → IsStored s plan m k → ready_at s plan on port.clock ≤ plan.write m k
  write_slot m k on memory port here through placed d =
      subst (λ (x : ℕ). ready_at s plan x port.clock ≤ plan.write m k) chip_one
      (subst (λ (x : WritePort). ready_at s plan d.chip x.clock ≤ plan.write m k) port_one (let f = d.slot in omega arith))
    where
      memory_one : d.memory ≡ memory
      memory_one = let f = d.here in let g = here in cc

      port_one : d.port ≡ port
      port_one =
          let f : slice_get memory.writes k ≡ Some d.port = subst (λ (x : Memory). slice_get x.writes k ≡ Some d.port) memory_one d.through in
          let g = through in cc

      chip_one : d.chip ≡ on
      chip_one = let f = d.placed in let g = placed in cc

  ready_first : (n : NetId) (chip slot : ℕ) → IsUsed s plan n chip slot → ready_at s plan chip n ≤ slot
  ready_first n chip slot (by_element out e is on i task drives here placed needed) =
      let k = subst (λ (d : Driver). IsSettledBy s plan out d) drives (task_planned (Settle out) task).1 in
      let one : k.is ≡ is = let f = k.here in let g = here in cc in
      let same : k.chip ≡ on = let f = k.placed in let g = placed in cc in
      element_uses out e on is i (subst (λ (x : Element). ElementSlots s plan out e on x) one (subst (λ (c : ℕ). ElementSlots s plan out e c k.is) same k.slots)) needed
  ready_first n chip slot (by_address m r memory port on i task here through placed none needed) =
      let k = task_planned (Fetch m r) task in
      let can = subst (λ (o : Option Edge). PortSlots s plan k.0 m r on memory port o) none (port_slots m r on memory port here through placed k.0 k.1) in
      let low = in_latest (ready_at s plan on) port.address i needed in
      let address = can.holds.address in omega arith
  ready_first n chip slot (by_read_clock m r memory port on edge task here through placed some) =
      let k = task_planned (Fetch m r) task in
      let slots = subst (λ (o : Option Edge). PortSlots s plan k.0 m r on memory port o) some (port_slots m r on memory port here through placed k.0 k.1) in
      let bits = slots.1 in omega arith
  ready_first n chip slot (by_write_clock m k memory port on task here through placed) =
      write_slot m k on memory port here through placed (task_planned (Store m k) task).1
  ready_first n chip slot (by_delivery net to start parent distance task at near) =
      let k = (task_planned (Deliver net to) task).1 in
      let begin : k.start ≡ start = let f = k.at_home in let g = at in cc in
      let same : k.parent ≡ parent = parent_is s.board start to k.parent parent k.distance distance (subst (λ (x : ℕ). IsParent s.board x to k.parent k.distance) begin k.near) near in
      let low = sent_ready net parent start at in
      let sent : plan.ready net parent ≤ plan.sent net to = subst (λ (x : ℕ). plan.ready net x ≤ plan.sent net to) same k.offer.first.holds.ready in
      omega arith

pub values_are_ready : ValuesAreReady
values_are_ready s plan planned n chip slot used = ready_first s plan planned n chip slot used

pub wires_carry_one : WiresCarryOne
wires_carry_one s plan planned past rest n chip other to is taken over wire here =
    let d = planned past rest (Deliver n chip) is in
    let one : d.offer.is ≡ wire = let f = d.offer.here in let g = here in cc in
    subst (λ (x : Wire). (plan.sent other to + x.latency ≤ plan.sent n chip) ⊎ (plan.sent n chip + x.latency ≤ plan.sent other to)) one
    (d.offer.first.holds.apart other to taken over)
