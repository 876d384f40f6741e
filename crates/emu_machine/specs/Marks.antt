-- The marks "before" and "after" of nets, and the standing of memories, slot by slot.
-- The rule is told in docs/RULES.md, "Marks".
use Rattle.std.specs.Prelude.{◌≡◌, ◌+◌, ℕ, zero, suc, ◌==◌, ◌&&◌, ◌||◌, nat_lt, Bool, true, false, not, is_some, if◌then◌else◌, Option, Some, None, List, [], ◌∷◌, map, length, take, slice_get, position, unwrap_or, option_map, option_and_then, count_by, Contains}
use Rattle.std.specs.List.{list_all}
use Rattle.std.specs.Option.{option_map_or}
use Rattle.id_arena.specs.declared.keys.ChipNetId.{ChipNetId}
use Rattle.id_arena.specs.declared.keys.RegId.{RegId}
use Rattle.id_arena.specs.declared.keys.WireId.{WireId}
use Rattle.id_arena.specs.declared.wire.Wire.{Wire}
use Rattle.design_core.specs.declared.node.NodeId.{NodeId}
use Rattle.design_core.specs.declared.node.NodeId.TheVariants as node
use Rattle.id_arena.specs.declared.keys.NetId.{NetId}
use Rattle.design_core.specs.declared.element.Edge.{Edge}
use Rattle.design_core.specs.declared.element.Memory.{Memory}
use Rattle.design_core.specs.declared.element.Element.{Element}
use Rattle.design_core.specs.declared.element.Element.TheVariants as element
use Rattle.design_core.specs.declared.element.Driver.{Driver}
use Rattle.design_core.specs.declared.element.Driver.TheVariants as driven
use Rattle.design_core.specs.declared.parts.Parts.{Parts}
use Rattle.design_core.specs.Design.{driver}
use Rattle.design_core.specs.Dependency.{write_nodes}
use Rattle.design_core.specs.Valuation.{Valuation, IsAddress}
use Rattle.design_core.specs.Event.{written}
use Rattle.emu_machine.specs.declared.schedule.Action.{Action}
use Rattle.emu_machine.specs.declared.schedule.Action.TheVariants.{Input, Load, Send, Write, Read}
use Rattle.emu_machine.specs.declared.schedule.Slot.{Slot}
use Rattle.emu_machine.specs.declared.map.Subject.{Subject}
use Rattle.emu_machine.specs.declared.map.Subject.TheVariants.{Net, Up, Down, Take, Next, TakeWrite, Old, TakeRead}
use Rattle.emu_machine.specs.Results.{Results}
use Rattle.emu_machine.specs.Netlist.{chip_at, is_chip_net, through_gates}
use Rattle.emu_machine.specs.State.{State, net_value, on_register, read_port, write_port, first_given, actions_of, Timed, timed_actions, is_under_way, ending}
use Rattle.emu_machine.specs.Mapped.{subject, subject_value, memory_of, design_read, is_kept}

-- A net that bears "before" shows its subject's value before the event; one that bears "after" shows
-- its subject's value in the event.
pub record Mark : Type 0 where
  pub before : Bool
  pub after : Bool

abbrev pub no_mark : Mark
no_mark = record { before = false; after = false }

abbrev pub both_marks : Mark
both_marks = record { before = true; after = true }

abbrev pub only_before : Mark
only_before = record { before = true; after = false }

abbrev pub only_after : Mark
only_after = record { before = false; after = true }

abbrev pub after_if : Bool → Mark
after_if b = record { before = false; after = b }

abbrev pub has_some : Mark → Bool
has_some m = m.before || m.after

abbrev pub all_before : List Mark → Bool
all_before = list_all (λ m. m.before)

abbrev pub all_after : List Mark → Bool
all_after = list_all (λ m. m.after)

-- What the marks rest on: by chip and net, the marks of registers and read nets; by chip and memory,
-- how many write ports are done, whether the memory is broken, and whether any write stood before; by
-- wire, the marks of the value that it carries.
pub record MarkState : Type 0 where
  pub on : ℕ → ℕ → Mark
  pub standing : ℕ → ℕ → ℕ
  pub broken : ℕ → ℕ → Bool
  pub wrote : ℕ → ℕ → Bool
  pub carried : ℕ → Mark

-- a net of the design that the event cannot change has both marks where it has one
abbrev pub widened : (NodeId → Bool) → Option Subject → Mark → Mark
widened inside (Some (Net n)) m = if has_some m && not (inside (node.Net n)) then both_marks else m
widened inside other m = m

-- A latch gate reads its gate, its data, its hold and its resets. It has "before" where all of these
-- have it, and "after" where all but the hold have it and the hold has a mark.
abbrev pub latch_mark : List Mark → Mark
latch_mark (gate ∷ feed ∷ hold ∷ resets) =
    record {
      before = all_before (gate ∷ feed ∷ hold ∷ resets);
      after = gate.after && feed.after && all_after resets && has_some hold;
    }
latch_mark other = no_mark

-- a gate of the design has each mark that all its inputs have
abbrev pub copied_mark : List Mark → Mark
copied_mark ms = record { before = all_before ms; after = all_after ms }

abbrev pub element_mark : Option Element → List Mark → Mark
element_mark (Some (element.Gate op inputs output)) ms = copied_mark ms
element_mark (Some (element.Latch l)) ms = latch_mark ms
element_mark other ms = no_mark

-- the gate of a constant has both marks
abbrev pub driver_mark : Parts → Driver → List Mark → Mark
driver_mark p (driven.Constant b) ms = both_marks
driver_mark p (driven.Elem e) ms = element_mark (slice_get p.elements e.place) ms
driver_mark p other ms = no_mark

-- an edge gate bears "after" where its first input shows the clock from before and its second the clock from
-- after
abbrev pub edge_mark : List Mark → Mark
edge_mark (prev ∷ now ∷ []) = after_if (prev.before && now.after)
edge_mark other = no_mark

-- a next gate has "after" where its data has "before" and its resets have "after"
abbrev pub next_mark : List Mark → Mark
next_mark (feed ∷ resets) = after_if (feed.before && all_after resets)
next_mark other = no_mark

-- a write take gate has "after" where its edge has "after" and its enable "before"
abbrev pub write_take_mark : List Mark → Mark
write_take_mark (edge ∷ enable ∷ []) = after_if (edge.after && enable.before)
write_take_mark other = no_mark

-- a read take gate has "after" where its one input, the edge, has it
abbrev pub read_take_mark : List Mark → Mark
read_take_mark (edge ∷ []) = after_if edge.after
read_take_mark other = no_mark

-- the mark of a gate, by the subject of its output and the marks of its inputs in order
abbrev pub gate_mark : Parts → Option Subject → List Mark → Mark
gate_mark p (Some (Net n)) ms = driver_mark p (driver p n.place) ms
gate_mark p (Some (Up n)) ms = edge_mark ms
gate_mark p (Some (Down n)) ms = edge_mark ms
gate_mark p (Some (Take e)) ms = after_if (all_after ms)
gate_mark p (Some (Next e)) ms = next_mark ms
gate_mark p (Some (TakeWrite m k)) ms = write_take_mark ms
gate_mark p (Some (Old m k b)) ms = no_mark
gate_mark p (Some (TakeRead m k)) ms = read_take_mark ms
gate_mark p None ms = no_mark

-- the marks of a net of a chip
abbrev pub net_mark : Parts → Results → (NodeId → Bool) → MarkState → ℕ → ℕ → Mark
net_mark p r inside s c n =
    through_gates (chip_at r.net c)
    (λ k. widened inside (subject r c k) (s.on c k))
    (λ gate ms. widened inside (subject r c gate.output.place) (gate_mark p (subject r c gate.output.place) ms))
    n

abbrev pub net_marks : Parts → Results → (NodeId → Bool) → MarkState → ℕ → List ChipNetId → List Mark
net_marks p r inside s c nets = map (λ n. net_mark p r inside s c n.place) nets

-- the write nodes of a memory of the design, and of the one that memory `m` of chip `c` stands for
abbrev pub design_writes : Parts → ℕ → List NodeId
design_writes p m = option_map_or (λ memory. write_nodes (record { place = m }) memory) (slice_get p.memories m) []

abbrev pub writes_of : Parts → Results → ℕ → ℕ → List NodeId
writes_of p r c m = option_map_or (design_writes p) (memory_of r c m) []

-- At the start of a frame what is kept has "before", a memory stands at the writes outside the influence,
-- and no wire carries anything that is known.
abbrev pub start_marks : Parts → Results → (NodeId → Bool) → MarkState
start_marks p r inside =
    record {
      on = λ c n. if is_kept r c n then only_before else no_mark;
      standing = λ c m. count_by (λ a. not (inside a)) (writes_of p r c m);
      broken = λ c m. false;
      wrote = λ c m. false;
      carried = λ w. no_mark;
    }

-- A register without enable is loaded with the marks of its D. One with an enable ends with "after" alone, if
-- it had a mark and both D and enable have "after"; else with none.
abbrev pub load_mark : (ChipNetId → Mark) → ChipNetId → Option ChipNetId → Option ChipNetId → Option Mark
load_mark mark q None enable = None
load_mark mark q (Some d) None = Some (mark d)
load_mark mark q (Some d) (Some enable) =
    Some (after_if ((mark d).after && (mark enable).after && has_some (mark q)))

-- the clock of the design's read port that port `k` of memory `m` of chip `c` stands for, if it has one
abbrev pub clock_of_read : Parts → Results → ℕ → ℕ → ℕ → Option Edge
clock_of_read p r c m k =
    option_and_then (λ port. port.clock) (option_and_then (λ of. design_read p of k) (memory_of r c m))

-- nothing is written yet in this frame, and so many write ports are all done, none out of turn
abbrev pub is_untouched : MarkState → ℕ → ℕ → Bool
is_untouched s c m = not (s.wrote c m)

abbrev pub is_whole : MarkState → ℕ → ℕ → ℕ → Bool
is_whole s writes c m = not (s.broken c m) && (s.standing c m == writes)

-- A read of a port without a clock gives "after" where the address has "after" and all writes are done and
-- unbroken, and "before" where the address has "before" and no write stood in an earlier slot. A read of a
-- port with a clock gives the word from before: "after" where the address has "before" and no write stood
-- in an earlier slot.
abbrev pub read_mark : MarkState → Option Edge → ℕ → ℕ → ℕ → List Mark → Mark
read_mark s (Some clock) writes c m address = after_if (all_before address && is_untouched s c m)
read_mark s None writes c m address =
    record {
      before = all_before address && is_untouched s c m;
      after = all_after address && is_whole s writes c m;
    }

-- what a `send` gives at its far end: over a latency of one slot the marks that the net has now, and over a
-- longer one those that the wire carries
abbrev pub arriving_mark : Parts → Results → (NodeId → Bool) → MarkState → Wire → ℕ → ChipNetId → Mark
arriving_mark p r inside s ends wire net =
    if ends.latency == 1 then net_mark p r inside s ends.from.place net.place else s.carried wire

-- the mark that an action gives to net `n` of chip `c` in its last slot, if it gives one; all is read from `s`
abbrev pub action_mark : Parts → Results → List Wire → (NodeId → Bool) → MarkState → Action → ℕ → ℕ → Option Mark
action_mark p r wires inside s (Input chip register net) c n =
    on_register r.net chip.place register.place (λ q. Some only_after) c n
action_mark p r wires inside s (Load chip register) c n =
    on_register r.net chip.place register.place (λ q. load_mark (λ m. net_mark p r inside s chip.place m.place) q.q q.d q.enable) c n
action_mark p r wires inside s (Send wire net register) c n =
    option_and_then (λ ends. on_register r.net ends.to.place register.place (λ q. Some (arriving_mark p r inside s ends wire.place net)) c n) (slice_get wires wire.place)
action_mark p r wires inside s (Write chip mem port) c n = None
action_mark p r wires inside s (Read chip mem port) c n =
    if chip.place == c
    then option_and_then (λ q. option_map (λ b. read_mark s (clock_of_read p r c mem.place port) (length (writes_of p r c mem.place)) c mem.place (net_marks p r inside s c q.address)) (position (is_chip_net n) q.bits)) (read_port r.net c mem.place port)
    else None

-- the write port of memory `m` of chip `c` that an action uses, if it uses one
abbrev pub port_written : ℕ → ℕ → Action → Option ℕ
port_written c m (Write chip mem port) = if (chip.place == c) && (mem.place == m) then Some port else None
port_written c m (Input chip register net) = None
port_written c m (Load chip register) = None
port_written c m (Send wire net register) = None
port_written c m (Read chip mem port) = None

-- the marks that an action gives to the value on wire `w`, if it gives any: a `send` those of its net
abbrev pub action_carried_mark : Parts → Results → List Wire → (NodeId → Bool) → MarkState → Action → ℕ → Option Mark
action_carried_mark p r wires inside s (Send wire net register) w =
    if wire.place == w then option_map (λ ends. net_mark p r inside s ends.from.place net.place) (slice_get wires w) else None
action_carried_mark p r wires inside s (Input chip register net) w = None
action_carried_mark p r wires inside s (Load chip register) w = None
action_carried_mark p r wires inside s (Write chip mem port) w = None
action_carried_mark p r wires inside s (Read chip mem port) w = None

-- a write counts where its port is the next one due, its enable has "after", and its address and data have "before"
abbrev pub write_counts : Parts → Results → (NodeId → Bool) → MarkState → ℕ → ℕ → ℕ → Bool
write_counts p r inside s c m k =
    (k == s.standing c m)
    && option_map_or
    (λ w. (net_mark p r inside s c w.enable.place).after && all_before (net_marks p r inside s c w.address) && all_before (net_marks p r inside s c w.feed))
    (write_port r.net c m k)
    false

-- The marks at the end of slot `t`: registers and read nets take those that the actions give that end in it,
-- memories and wires what the actions give that stand in it.
abbrev pub marks_step : Parts → Results → List Wire → (NodeId → Bool) → List Slot → ℕ → MarkState → MarkState
marks_step p r wires inside slots t s =
    let written_port : ℕ → ℕ → Option ℕ = λ c m. first_given (port_written c m) (actions_of slots t) in
    record {
      on = λ c n. unwrap_or (first_given (λ a. action_mark p r wires inside s a c n) (ending wires slots t)) (s.on c n);
      standing = λ c m. option_map_or (λ k. if write_counts p r inside s c m k then s.standing c m + 1 else s.standing c m) (written_port c m) (s.standing c m);
      broken = λ c m. s.broken c m || option_map_or (λ k. not (write_counts p r inside s c m k)) (written_port c m) false;
      wrote = λ c m. s.wrote c m || is_some (written_port c m);
      carried = λ w. unwrap_or (first_given (λ a. action_carried_mark p r wires inside s a w) (actions_of slots t)) (s.carried w);
    }

-- the marks at the start of slot `t` of a frame
abbrev pub marks_at : Parts → Results → List Wire → (NodeId → Bool) → List Slot → ℕ → MarkState
marks_at p r wires inside slots zero = start_marks p r inside
marks_at p r wires inside slots (suc t) = marks_step p r wires inside slots t (marks_at p r wires inside slots t)

-- an action stands in an earlier slot than `t` and is still under way in it; only a `send` can be
abbrev pub is_on_its_way : List Wire → ℕ → Timed → Bool
is_on_its_way wires t a = nat_lt a.slot t && is_under_way wires t a

-- A wire carries what its mark says: where a `send` is on its way at the start of slot `t`, the wire has the
-- value of the sent net before the event if the net had "before" at the start of the send's slot, and its
-- value after the event if it had "after" there.
abbrev pub CarriedTrue : Parts → Results → List Wire → (NodeId → Bool) → List Slot → ℕ → Valuation → Valuation → State → Type 0
CarriedTrue p r wires inside slots t v w x =
    (a : Timed) (wire : WireId) (net : ChipNetId) (register : RegId) (ends : Wire) (n : NetId)
    → Contains (timed_actions slots) a
    → a.action ≡ Send wire net register
    → slice_get wires wire.place ≡ Some ends
    → is_on_its_way wires t a ≡ true
    → subject r ends.from.place net.place ≡ Some (Net n)
    → ((net_mark p r inside (marks_at p r wires inside slots a.slot) ends.from.place net.place).before ≡ true → x.carried wire.place ≡ v.net n.place)
    × ((net_mark p r inside (marks_at p r wires inside slots a.slot) ends.from.place net.place).after ≡ true → x.carried wire.place ≡ w.net n.place)

-- The marks at the start of slot `t` are true of a state, in an event from `v` to `w`: each net that bears one
-- shows what the mark says; each memory that is not broken holds the words after as many write ports as its
-- standing tells; each input's outside value is that after the event; and what is on its way is as it was
-- sent.
pub record TrueMarks (p : Parts) (r : Results) (wires : List Wire) (inside : NodeId → Bool) (slots : List Slot) (t : ℕ) (v w : Valuation) (x : State) : Type 0 where
  pub before : (c n : ℕ) (m : NetId) → subject r c n ≡ Some (Net m)
      → (net_mark p r inside (marks_at p r wires inside slots t) c n).before ≡ true
      → net_value r.net x c n ≡ v.net m.place
  pub after : (c n : ℕ) (what : Subject) → subject r c n ≡ Some what
      → (net_mark p r inside (marks_at p r wires inside slots t) c n).after ≡ true
      → net_value r.net x c n ≡ subject_value p v w what
  pub words : (c m of a : ℕ) (memory : Memory) → memory_of r c m ≡ Some of → slice_get p.memories of ≡ Some memory → IsAddress p of a
      → (marks_at p r wires inside slots t).broken c m ≡ false
      → x.word c m a ≡ written v w (take ((marks_at p r wires inside slots t).standing c m) memory.writes) a (v.word of a)
  pub outside : (n : ℕ) → driver p n ≡ driven.Input → x.outside n ≡ w.net n
  pub carried : CarriedTrue p r wires inside slots t v w x
