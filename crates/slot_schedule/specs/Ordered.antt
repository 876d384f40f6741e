-- What a list plan orders, told over the plan alone.
-- The rules are told in docs/RULES.md, "List plans".
use Rattle.std.specs.Prelude.{◌≡◌, ◌≢◌, ◌≤◌, ◌+◌, ◌⊎◌, ℕ, Some, None, List, ◌∷◌, ◌++◌, slice_get, Contains}
use Rattle.id_arena.specs.declared.keys.ElemId.{ElemId}
use Rattle.id_arena.specs.declared.keys.MemId.{MemId}
use Rattle.id_arena.specs.declared.keys.NetId.{NetId}
use Rattle.id_arena.specs.declared.wire.Wire.{Wire}
use Rattle.design_core.specs.declared.element.Driver.TheVariants.{Elem}
use Rattle.design_core.specs.declared.element.Edge.{Edge}
use Rattle.design_core.specs.declared.element.Element.{Element}
use Rattle.design_core.specs.declared.element.Element.TheVariants as element
use Rattle.design_core.specs.declared.element.Memory.{Memory}
use Rattle.design_core.specs.declared.element.ReadPort.{ReadPort}
use Rattle.design_core.specs.declared.element.WritePort.{WritePort}
use Rattle.design_core.specs.Design.{driver}
use Rattle.design_core.specs.Dependency.{needs}
use Rattle.board_model.specs.Trees.{IsParent}
use Rattle.slot_schedule.specs.Settings.{Setting, chip_of, memory_chip, home}
use Rattle.slot_schedule.specs.Deliveries.{IsSetting}
use Rattle.slot_schedule.specs.ListPlan.{Plan, Task, IsListPlan, tasks, ready_at}
use Rattle.slot_schedule.specs.ListPlan.Task.{Fetch, Settle, Store, Deliver}

-- the slot in which an element uses its nets: a gate and a latch show them as soon as they are ready, a
-- flip-flop takes them when it is loaded
abbrev pub used_in : Plan → NetId → ElemId → ℕ → Element → ℕ
used_in plan n e chip (element.Flop f) = plan.load e
used_in plan n e chip other = plan.ready n chip

-- the value of a net after the event is used on a chip in a slot
pub data IsUsed (s : Setting) (plan : Plan) : NetId → ℕ → ℕ → Type 0 where
  by_element : (n : NetId) (e : ElemId) (is : Element) (chip : ℕ) (i : NetId)
      → Contains (tasks s) (Settle n)
      → driver s.design n.place ≡ Elem e
      → slice_get s.design.elements e.place ≡ Some is
      → chip_of s e.place ≡ Some chip
      → Contains (needs is) i
      → IsUsed s plan i chip (used_in plan n e chip is)
  by_address : (m : MemId) (r : ℕ) (memory : Memory) (port : ReadPort) (chip : ℕ) (i : NetId)
      → Contains (tasks s) (Fetch m r)
      → slice_get s.design.memories m.place ≡ Some memory
      → slice_get memory.reads r ≡ Some port
      → memory_chip s m ≡ Some chip
      → port.clock ≡ None
      → Contains port.address i
      → IsUsed s plan i chip (plan.read m r)
  by_read_clock : (m : MemId) (r : ℕ) (memory : Memory) (port : ReadPort) (chip : ℕ) (edge : Edge)
      → Contains (tasks s) (Fetch m r)
      → slice_get s.design.memories m.place ≡ Some memory
      → slice_get memory.reads r ≡ Some port
      → memory_chip s m ≡ Some chip
      → port.clock ≡ Some edge
      → IsUsed s plan edge.net chip (plan.bits m r)
  by_write_clock : (m : MemId) (k : ℕ) (memory : Memory) (port : WritePort) (chip : ℕ)
      → Contains (tasks s) (Store m k)
      → slice_get s.design.memories m.place ≡ Some memory
      → slice_get memory.writes k ≡ Some port
      → memory_chip s m ≡ Some chip
      → IsUsed s plan port.clock chip (plan.write m k)
  by_delivery : (n : NetId) (chip start parent distance : ℕ)
      → Contains (tasks s) (Deliver n chip)
      → home s n ≡ Some start
      → IsParent s.board start chip parent distance
      → IsUsed s plan n parent (plan.sent n chip)

-- each value is ready before it is used
abbrev pub ValuesAreReady : Type 0
ValuesAreReady =
    (s : Setting) (plan : Plan) → IsListPlan s plan → (n : NetId) (chip slot : ℕ) → IsUsed s plan n chip slot → ready_at s plan chip n ≤ slot

-- of two deliveries over one wire, one is over before the other begins
abbrev pub WiresCarryOne : Type 0
WiresCarryOne =
    (s : Setting) (plan : Plan) → IsListPlan s plan
    → (past rest : List Task) (n : NetId) (chip : ℕ) (other : NetId) (to : ℕ)
    → tasks s ≡ past ++ Deliver n chip ∷ rest
    → Contains past (Deliver other to)
    → plan.wire other to ≡ plan.wire n chip
    → (wire : Wire) → slice_get s.board.wires (plan.wire n chip) ≡ Some wire
    → (plan.sent other to + wire.latency ≤ plan.sent n chip) ⊎ (plan.sent n chip + wire.latency ≤ plan.sent other to)

-- a task reads or writes a memory
pub data Access (m : MemId) : Task → Type 0 where
  reads : (r : ℕ) → Access m (Fetch m r)
  writes : (k : ℕ) → Access m (Store m k)

-- the slot in which it does
abbrev pub access_slot : Plan → Task → ℕ
access_slot plan (Fetch m r) = plan.read m r
access_slot plan (Store m k) = plan.write m k
access_slot plan other = 0

-- two different accesses of one memory are in different slots
abbrev pub MemoriesAreUsedOnce : Type 0
MemoriesAreUsedOnce =
    (s : Setting) (plan : Plan) → IsSetting s → IsListPlan s plan
    → (m : MemId) (t u : Task) → Contains (tasks s) t → Contains (tasks s) u → Access m t → Access m u
    → t ≢ u → access_slot plan t ≢ access_slot plan u
