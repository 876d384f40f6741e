-- What two list plans of one frame agree on, node by node, and what follows from it for the values that a
-- task uses.
use Rattle.std.proofs.Common.{◌≡◌, ◌⊎◌, inl, inr, ◌+◌, ℕ, zero, suc, Bool, true, false, max, Option, Some, None, List, [], ◌∷◌, refl, sym, ◌∙◌, ap, subst, arith}
use Rattle.std.specs.Prelude.{slice_get, Contains}
use Rattle.std.proofs.lemmas.Bool.{cases_eq}
use Rattle.id_arena.specs.declared.keys.ElemId.{ElemId}
use Rattle.id_arena.specs.declared.keys.MemId.{MemId}
use Rattle.id_arena.specs.declared.keys.NetId.{NetId}
use Rattle.design_core.specs.declared.element.Driver.{Driver}
use Rattle.design_core.specs.declared.element.Driver.TheVariants.{Constant, Input, Elem, Read}
use Rattle.design_core.specs.declared.element.Edge.{Edge}
use Rattle.design_core.specs.declared.element.Element.{Element}
use Rattle.design_core.specs.declared.element.Element.TheVariants as element
use Rattle.design_core.specs.declared.node.NodeId.{NodeId}
use Rattle.design_core.specs.declared.node.NodeId.TheVariants.{Net, Write}
use Rattle.design_core.specs.Design.{driver, element_reads}
use Rattle.design_core.specs.Dependency.{needs}
use Rattle.slot_schedule.specs.Settings.{Setting, home, chip_of, HasPin}
use Rattle.slot_schedule.specs.Deliveries.{IsSetting}
use Rattle.slot_schedule.specs.Deliveries.IsToReach.{reader}
use Rattle.slot_schedule.specs.ListPlan.{Plan, Task, IsLeast, ElementSlots, ready_inside, ready_at, latest}
use Rattle.slot_schedule.specs.ListPlan.Task.{Fetch, Settle, Store, Deliver}
use Rattle.slot_schedule.specs.Frames.{read_clock, bits_steps, driver_steps, element_steps, task_steps, step}
use Rattle.slot_schedule.specs.declared.plan.PlanAct.TheVariants as act

-- the slots of a read port, and of its registers where it has a clock
pub record SamePort (s : Setting) (p q : Plan) (m : MemId) (r : ℕ) : Type 0 where
  pub read : p.read m r ≡ q.read m r
  pub bits : (edge : Edge) → read_clock s m r ≡ Some edge → p.bits m r ≡ q.bits m r

-- from which slot on a net is ready at home and where it is delivered
pub record SameReady (s : Setting) (p q : Plan) (n : NetId) : Type 0 where
  pub chip : ℕ
  pub at : home s n ≡ Some chip
  pub settled : p.ready n chip ≡ q.ready n chip
  pub delivered : (c : ℕ) → Contains (s.routes n) c → p.ready n c ≡ q.ready n c

abbrev pub SameNet : Setting → Plan → Plan → NetId → Driver → Type 0
SameNet s p q n (Constant b) = Unit {0}
SameNet s p q n Input = Unit {0}
SameNet s p q n (Elem e) = SameReady s p q n
SameNet s p q n (Read m r b) = SameReady s p q n × SamePort s p q m r

abbrev pub SameNode : Setting → Plan → Plan → NodeId → Type 0
SameNode s p q (Net n) = SameNet s p q n (driver s.design n.place)
SameNode s p q (Write m k) = p.write m k ≡ q.write m k

abbrev pub SameTask : Setting → Plan → Plan → Task → Type 0
SameTask s p q (Fetch m r) = SamePort s p q m r
SameTask s p q (Settle n) = driver_steps s p (driver s.design n.place) ≡ driver_steps s q (driver s.design n.place)
SameTask s p q (Store m k) = p.write m k ≡ q.write m k
SameTask s p q (Deliver n chip) = (p.sent n chip ≡ q.sent n chip) × (p.wire n chip ≡ q.wire n chip)

-- the same steps come of a task that the plans agree on
bits_same : (s : Setting) (p q : Plan) (m : MemId) (r : ℕ) → SamePort s p q m r → (o : Option Edge) → read_clock s m r ≡ o
    → bits_steps p m r o ≡ bits_steps q m r o
bits_same s p q m r same None is = refl
bits_same s p q m r same (Some edge) is = ap (λ k. step k (act.Bits m r) ∷ []) (same.bits edge is)

pub steps_same : (s : Setting) (p q : Plan) (t : Task) → SameTask s p q t → task_steps s p t ≡ task_steps s q t
steps_same s p q (Fetch m r) same = rw (same.read, bits_same s p q m r same (read_clock s m r) refl) refl
steps_same s p q (Settle n) same = same
steps_same s p q (Store m k) same = rw same refl
steps_same s p q (Deliver n chip) same = rw (same.0, same.1) refl

-- what a pin needs, an element reads
pub needs_are_read : (is : Element) (n : NetId) → Contains (needs is) n → Contains (element_reads is) n
needs_are_read (element.Gate op inputs output) n h = h
needs_are_read (element.Flop f) n (zero, below, is) = (0, omega arith, is)
needs_are_read (element.Flop f) n (suc k, below, is) = (suc (suc k), omega (arith, below), is)
needs_are_read (element.Latch l) n h = h
needs_are_read (element.Memory m) n h = h

pub latest_same : (f g : NetId → ℕ) (ns : List NetId) → ((i : NetId) → Contains ns i → f i ≡ g i) → latest f ns ≡ latest g ns
latest_same f g [] same = refl
latest_same f g (n ∷ ns) same =
    let here = same n (0, omega arith, refl) in
    let rest = latest_same f g ns (λ (i : NetId) (h : Contains ns i). same i (suc h.0, omega (arith, h.1), h.2)) in
    rw (here, rest) refl

pub least_same : (A B : ℕ → Type 0) → ((t : ℕ) → A t → B t) → ((t : ℕ) → B t → A t) → (t u : ℕ) → IsLeast A t → IsLeast B u → t ≡ u
least_same A B to back t u a b =
    let low = a.least u (back u b.holds) in
    let high = b.least t (to t a.holds) in omega arith

-- a net that a pin on a chip reads is ready there from the same slot on
module _ (s : Setting) (ok : IsSetting s) (p q : Plan) where
  module _ (c e : ℕ) (i : NetId) (placed : chip_of s e ≡ Some c) (pin : HasPin s.design e i) (on : s.inside (Net i) ≡ true) where
    at_chip : SameReady s p q i → p.ready i c ≡ q.ready i c
    at_chip k = go (cases_eq k.chip c)
      where
        go : (k.chip ≡ c) ⊎ (k.chip ≡ c → ⊥) → p.ready i c ≡ q.ready i c
        go (inl same) = subst (λ (x : ℕ). p.ready i x ≡ q.ready i x) same k.settled
        go (inr other) = k.delivered c (((ok.routes i k.chip on k.at).chips c).1 (reader c (record { element = e; placed = placed; reads = pin }) (λ same. other (sym same))))

    by_driver : (d : Driver) → SameNet s p q i d → ready_inside p d i c ≡ ready_inside q d i c
    by_driver (Constant b) k = refl
    by_driver Input k = refl
    by_driver (Elem x) k = at_chip k
    by_driver (Read m r b) k = at_chip k.0

  pub ready_same : (c e : ℕ) (i : NetId) → chip_of s e ≡ Some c → HasPin s.design e i → (s.inside (Net i) ≡ true → SameNode s p q (Net i))
      → ready_at s p c i ≡ ready_at s q c i
  ready_same c e i placed wired known = go (s.inside (Net i)) refl
    where
      go : (b : Bool) → s.inside (Net i) ≡ b → ready_at s p c i ≡ ready_at s q c i
      go false off = rw off refl
      go true on = rw on (by_driver c e i placed wired on (driver s.design i.place) (known on))

  -- an element's output is ready from the same slot on, and it has the same steps
  pub element_same : (n : NetId) (e : ElemId) (c : ℕ) (is : Element) → slice_get s.design.elements e.place ≡ Some is → chip_of s e.place ≡ Some c
      → ((i : NetId) → Contains (needs is) i → s.inside (Net i) ≡ true → SameNode s p q (Net i))
      → ElementSlots s p n e c is → ElementSlots s q n e c is
      → (p.ready n c ≡ q.ready n c) × (element_steps p e (Some is) ≡ element_steps q e (Some is))
  element_same n e c is here placed known a b = go is here known a b
    where
      all : (x : Element) → slice_get s.design.elements e.place ≡ Some x → ((i : NetId) → Contains (needs x) i → s.inside (Net i) ≡ true → SameNode s p q (Net i))
          → latest (ready_at s p c) (needs x) ≡ latest (ready_at s q c) (needs x)
      all x at k = latest_same (ready_at s p c) (ready_at s q c) (needs x) (λ (i : NetId) (h : Contains (needs x) i). ready_same c e.place i placed (HasPin.pin x at (needs_are_read x i h)) (k i h))

      go : (x : Element) → slice_get s.design.elements e.place ≡ Some x → ((i : NetId) → Contains (needs x) i → s.inside (Net i) ≡ true → SameNode s p q (Net i))
          → ElementSlots s p n e c x → ElementSlots s q n e c x
          → (p.ready n c ≡ q.ready n c) × (element_steps p e (Some x) ≡ element_steps q e (Some x))
      go (element.Gate op inputs output) at k x y = (x ∙ all (element.Gate op inputs output) at k ∙ sym y, refl)
      go (element.Flop f) at k x y =
          let loads : p.load e ≡ q.load e = x.0 ∙ ap (max 1) (all (element.Flop f) at k) ∙ sym y.0 in
          (x.1 ∙ ap (λ t. t + 1) loads ∙ sym y.1, ap (λ t. step t (act.Flop e) ∷ []) loads)
      go (element.Latch l) at k x y =
          let loads : p.load e ≡ q.load e = x.0 ∙ all (element.Latch l) at k ∙ sym y.0 in
          (x.1 ∙ loads ∙ sym y.1, ap (λ t. step t (act.Hold e) ∷ []) loads)
      go (element.Memory m) at k x y = absurd x
