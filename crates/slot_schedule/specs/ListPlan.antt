-- The list plan of a frame: equations on the finished plan.
-- The rules are told in docs/RULES.md, "List plans".
use Rattle.std.specs.Prelude.{◌≡◌, ◌≢◌, ◌<◌, ◌≤◌, ◌+◌, ◌==◌, ◌&&◌, ◌⊎◌, ℕ, zero, suc, Bool, true, false, if◌then◌else◌, Option, Some, None, List, [], ◌∷◌, ◌++◌, max, map, count_by, take, slice_get, Contains}
use Rattle.std.specs.List.{list_any}
use Rattle.std.specs.Option.{is_some}
use Rattle.id_arena.specs.declared.keys.ElemId.{ElemId}
use Rattle.id_arena.specs.declared.keys.MemId.{MemId}
use Rattle.id_arena.specs.declared.keys.NetId.{NetId}
use Rattle.id_arena.specs.declared.wire.Wire.{Wire}
use Rattle.design_core.specs.declared.element.Driver.{Driver}
use Rattle.design_core.specs.declared.element.Driver.TheVariants.{Constant, Input, Elem, Read}
use Rattle.design_core.specs.declared.element.Edge.{Edge}
use Rattle.design_core.specs.declared.element.Element.{Element}
use Rattle.design_core.specs.declared.element.Element.TheVariants as element
use Rattle.design_core.specs.declared.element.Memory.{Memory}
use Rattle.design_core.specs.declared.element.ReadPort.{ReadPort}
use Rattle.design_core.specs.declared.element.WritePort.{WritePort}
use Rattle.design_core.specs.declared.node.NodeId.{NodeId}
use Rattle.design_core.specs.declared.node.NodeId.TheVariants.{Net, Write}
use Rattle.design_core.specs.Design.{driver}
use Rattle.design_core.specs.Dependency.{needs}
use Rattle.board_model.specs.Trees.{IsParent}
use Rattle.slot_schedule.specs.Settings.{Setting, chip_of, memory_chip, home}

-- What is planned, by memory, port, net, element and chip: a read port's access, the value of a net at its
-- home, a write port's access, the delivery of a net to a chip.
pub data Task : Type 0 where
  Fetch : MemId → ℕ → Task
  Settle : NetId → Task
  Store : MemId → ℕ → Task
  Deliver : NetId → ℕ → Task

-- a finished plan: from which slot on a net is ready on a chip, and the slots of flip-flops and latch holds,
-- of writes, of reads, of the registers of clocked read ports, and of deliveries with their wires
pub record Plan : Type 0 where
  pub ready : NetId → ℕ → ℕ
  pub load : ElemId → ℕ
  pub write : MemId → ℕ → ℕ
  pub read : MemId → ℕ → ℕ
  pub bits : MemId → ℕ → ℕ
  pub sent : NetId → ℕ → ℕ
  pub wire : NetId → ℕ → ℕ

-- whether a driver is a bit of this read port
abbrev pub is_bit : MemId → ℕ → Driver → Bool
is_bit m r (Read mem port bit) = (mem.place == m.place) && (port == r)
is_bit m r other = false

-- whether a node is a bit of this read port and in the influence
abbrev pub is_bit_inside : Setting → MemId → ℕ → NodeId → Bool
is_bit_inside s m r (Net n) = s.inside (Net n) && is_bit m r (driver s.design n.place)
is_bit_inside s m r (Write mem k) = false

-- a read port is read with the first of its bits: none of those taken before is one
abbrev pub fetches : Setting → List NodeId → Driver → List Task
fetches s before (Read m r b) = if list_any (is_bit_inside s m r) before then [] else Fetch m r ∷ []
fetches s before other = []

-- the tasks of a node: its own, and the deliveries of a net
abbrev pub node_tasks : Setting → List NodeId → NodeId → List Task
node_tasks s before (Net n) =
    fetches s before (driver s.design n.place) ++ (Settle n ∷ map (Deliver n) (s.routes n))
node_tasks s before (Write m k) = Store m k ∷ []

-- the tasks of the nodes of the influence among some nodes, where others were taken before
abbrev pub tasks_after : Setting → List NodeId → List NodeId → List Task
tasks_after s before [] = []
tasks_after s before (a ∷ nodes) =
    (if s.inside a then node_tasks s before a else []) ++ tasks_after s (before ++ a ∷ []) nodes

-- all tasks in planning order: by rank, then by node, then by the order of deliveries
abbrev pub tasks : Setting → List Task
tasks s = tasks_after s [] s.order

-- from which slot on a net of the influence is ready on a chip: 1 for an input; constants are never among these
abbrev pub ready_inside : Plan → Driver → NetId → ℕ → ℕ
ready_inside plan (Constant b) n chip = 0
ready_inside plan Input n chip = 1
ready_inside plan other n chip = plan.ready n chip

-- from which slot on a net is ready on a chip: 0 outside the influence
abbrev pub ready_at : Setting → Plan → ℕ → NetId → ℕ
ready_at s plan chip n =
    if s.inside (Net n) then ready_inside plan (driver s.design n.place) n chip else 0

-- the greatest of these for some nets, and 0 for none
abbrev pub latest : (NetId → ℕ) → List NetId → ℕ
latest ready [] = 0
latest ready (n ∷ ns) = max (ready n) (latest ready ns)

-- the least number of which something holds
pub record IsLeast (Holds : ℕ → Type 0) (t : ℕ) : Type 0 where
  pub holds : Holds t
  pub least : (u : ℕ) → Holds u → t ≤ u

-- a gate is ready when all its inputs are; a flip-flop is loaded when its clock and resets are ready, but
-- not in slot 0, and is ready one slot later; a latch is ready, and its hold is loaded, when its gate, data
-- and resets are ready; a memory drives no net itself
abbrev pub ElementSlots : Setting → Plan → NetId → ElemId → ℕ → Element → Type 0
ElementSlots s plan n e chip (element.Gate op inputs output) = plan.ready n chip ≡ latest (ready_at s plan chip) inputs
ElementSlots s plan n e chip (element.Flop f) =
    (plan.load e ≡ max 1 (latest (ready_at s plan chip) (needs (element.Flop f)))) × (plan.ready n chip ≡ plan.load e + 1)
ElementSlots s plan n e chip (element.Latch l) =
    (plan.load e ≡ latest (ready_at s plan chip) (needs (element.Latch l))) × (plan.ready n chip ≡ plan.load e)
ElementSlots s plan n e chip (element.Memory m) = ⊥

-- a net that an element drives has its slots at the element's chip
pub record IsSettledElement (s : Setting) (plan : Plan) (n : NetId) (e : ElemId) : Type 0 where
  pub is : Element
  pub chip : ℕ
  pub here : slice_get s.design.elements e.place ≡ Some is
  pub placed : chip_of s e.place ≡ Some chip
  pub slots : ElementSlots s plan n e chip is

-- a read bit is ready one slot after the access, or after its registers are loaded where the port has a clock
abbrev pub shown : Plan → MemId → ℕ → Option Edge → ℕ
shown plan m r None = plan.read m r + 1
shown plan m r (Some edge) = plan.bits m r + 1

-- a read bit has its slot at the chip of its memory
pub record IsSettledBit (s : Setting) (plan : Plan) (n : NetId) (m : MemId) (r : ℕ) : Type 0 where
  pub memory : Memory
  pub port : ReadPort
  pub chip : ℕ
  pub here : slice_get s.design.memories m.place ≡ Some memory
  pub through : slice_get memory.reads r ≡ Some port
  pub placed : memory_chip s m ≡ Some chip
  pub slot : plan.ready n chip ≡ shown plan m r port.clock

-- a net has its slots, by what drives it
abbrev pub IsSettledBy : Setting → Plan → NetId → Driver → Type 0
IsSettledBy s plan n (Constant b) = Unit {0}
IsSettledBy s plan n Input = Unit {0}
IsSettledBy s plan n (Elem e) = IsSettledElement s plan n e
IsSettledBy s plan n (Read m r b) = IsSettledBit s plan n m r

-- whether a read port has a clock and a bit in the influence
abbrev pub is_clocked_inside : Setting → ReadPort → Bool
is_clocked_inside s port = is_some port.clock && list_any (λ n. s.inside (Net n)) port.bits

-- how many such ports some read ports hold
abbrev pub clocked : Setting → List ReadPort → ℕ
clocked s ports = count_by (is_clocked_inside s) ports

-- a slot in which a port without clock can be read: its address is ready, all clocked reads and all writes
-- of its memory are done, and no port that was taken before has it
pub record CanRead (s : Setting) (plan : Plan) (past : List Task) (m : MemId) (chip : ℕ) (memory : Memory) (port : ReadPort) (t : ℕ) : Type 0 where
  pub address : latest (ready_at s plan chip) port.address ≤ t
  pub clocks : clocked s memory.reads < t
  pub writes : (k : ℕ) → s.inside (Write m k) ≡ true → plan.write m k < t
  pub free : (r : ℕ) → Contains past (Fetch m r) → plan.read m r ≢ t

-- clocked ports are read in the slots from 1 on, by port, and their registers are loaded when the clock is
-- ready and the read is done; other ports are read in the first slot in which they can be
abbrev pub PortSlots : Setting → Plan → List Task → MemId → ℕ → ℕ → Memory → ReadPort → Option Edge → Type 0
PortSlots s plan past m r chip memory port None = IsLeast (CanRead s plan past m chip memory port) (plan.read m r)
PortSlots s plan past m r chip memory port (Some edge) =
    (plan.read m r ≡ clocked s (take r memory.reads) + 1) × (plan.bits m r ≡ max (ready_at s plan chip edge.net) (plan.read m r + 1))

-- a read port has its slots at the chip of its memory
pub record IsFetched (s : Setting) (plan : Plan) (past : List Task) (m : MemId) (r : ℕ) : Type 0 where
  pub memory : Memory
  pub port : ReadPort
  pub chip : ℕ
  pub here : slice_get s.design.memories m.place ≡ Some memory
  pub through : slice_get memory.reads r ≡ Some port
  pub placed : memory_chip s m ≡ Some chip
  pub slots : PortSlots s plan past m r chip memory port port.clock

-- one more than the slot of the write port before, where that is in the influence
abbrev pub after_write : Setting → Plan → MemId → ℕ → ℕ
after_write s plan m zero = 0
after_write s plan m (suc k) = if s.inside (Write m k) then plan.write m k + 1 else 0

-- a write is done after all clocked reads of its memory and after the write before it, when its clock is ready
pub record IsStored (s : Setting) (plan : Plan) (m : MemId) (k : ℕ) : Type 0 where
  pub memory : Memory
  pub port : WritePort
  pub chip : ℕ
  pub here : slice_get s.design.memories m.place ≡ Some memory
  pub through : slice_get memory.writes k ≡ Some port
  pub placed : memory_chip s m ≡ Some chip
  pub slot : plan.write m k
      ≡ max (clocked s memory.reads + 1) (max (ready_at s plan chip port.clock) (after_write s plan m k))

-- a slot in which a wire can take what is ready from a slot on: no delivery before has it in any of the slots
-- of its latency
pub record IsFree (plan : Plan) (past : List Task) (start wire latency t : ℕ) : Type 0 where
  pub ready : start ≤ t
  pub apart : (n : NetId) (chip : ℕ) → Contains past (Deliver n chip) → plan.wire n chip ≡ wire
      → (plan.sent n chip + latency ≤ t) ⊎ (t + latency ≤ plan.sent n chip)

-- a wire from one chip to another, with the first slot in which it is free, and the slot after the last of
-- its latency
pub record IsOffer (s : Setting) (plan : Plan) (past : List Task) (start from to wire slot arrival : ℕ) : Type 0 where
  pub is : Wire
  pub here : slice_get s.board.wires wire ≡ Some is
  pub starts : is.from.place ≡ from
  pub ends : is.to.place ≡ to
  pub first : IsLeast (IsFree plan past start wire is.latency) slot
  pub arrives : arrival ≡ slot + is.latency

-- a delivery goes from the chip's parent over the wire that arrives first, the lowest of several
pub record IsDelivered (s : Setting) (plan : Plan) (past : List Task) (n : NetId) (chip : ℕ) : Type 0 where
  pub start : ℕ
  pub parent : ℕ
  pub distance : ℕ
  pub at_home : home s n ≡ Some start
  pub near : IsParent s.board start chip parent distance
  pub offer : IsOffer s plan past (plan.ready n parent) parent chip (plan.wire n chip) (plan.sent n chip) (plan.ready n chip)
  pub best : (wire slot arrival : ℕ) → IsOffer s plan past (plan.ready n parent) parent chip wire slot arrival
      → (plan.ready n chip < arrival) ⊎ ((plan.ready n chip ≡ arrival) × (plan.wire n chip ≤ wire))

-- a task has its slots, where these were taken before it
abbrev pub IsPlanned : Setting → Plan → List Task → Task → Type 0
IsPlanned s plan past (Fetch m r) = IsFetched s plan past m r
IsPlanned s plan past (Settle n) = IsSettledBy s plan n (driver s.design n.place)
IsPlanned s plan past (Store m k) = IsStored s plan m k
IsPlanned s plan past (Deliver n chip) = IsDelivered s plan past n chip

-- the list plan: each task has its slots
abbrev pub IsListPlan : Setting → Plan → Type 0
IsListPlan s plan = (past rest : List Task) (t : Task) → tasks s ≡ past ++ t ∷ rest → IsPlanned s plan past t
