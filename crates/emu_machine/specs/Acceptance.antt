-- The twelve rules of acceptance, A1 to A12: where each of them fails, and the first failure.
-- The rules are told in docs/RULES.md, "Acceptance".
use Rattle.std.specs.Prelude.{◌≡◌, ◌≢◌, ◌<◌, ◌+◌, ◌⊎◌, ℕ, ◌==◌, ◌&&◌, ◌||◌, nat_lt, nat_le, Bool, true, false, not, is_some, if◌then◌else◌, IsTrue, IsSomeAnd, Option, Some, None, List, [], ◌∷◌, ◌++◌, map, length, take, slice_get, unwrap_or, option_and_then, count_by, sum_by, flat_map, zip, bytes_eq, Contains}
use Rattle.std.specs.List.{list_any, list_all, enumerate_from}
use Rattle.std.specs.Option.{option_map_or}
use Rattle.id_arena.specs.declared.keys.NetId.{NetId}
use Rattle.id_arena.specs.declared.keys.ChipNetId.{ChipNetId}
use Rattle.id_arena.specs.declared.wire.Wire.{Wire}
use Rattle.id_arena.specs.BoardPlan.{BoardPlan}
use Rattle.design_core.specs.declared.element.Element.{Element}
use Rattle.design_core.specs.declared.element.Memory.{Memory}
use Rattle.design_core.specs.declared.element.Element.TheVariants as element
use Rattle.design_core.specs.declared.element.Driver.{Driver}
use Rattle.design_core.specs.declared.element.Driver.TheVariants as driven
use Rattle.design_core.specs.declared.node.NodeId.{NodeId}
use Rattle.design_core.specs.declared.node.NodeId.TheVariants as node
use Rattle.design_core.specs.declared.parts.Parts.{Parts}
use Rattle.design_core.specs.Design.{driver, port_bits, includes}
use Rattle.design_core.specs.Weight.{words_weight}
use Rattle.design_core.specs.Influence.{Group, all_groups, IsInfluence}
use Rattle.emu_machine.specs.declared.netlist.Chip.{Chip}
use Rattle.emu_machine.specs.declared.netlist.EmuGate.{EmuGate}
use Rattle.emu_machine.specs.declared.netlist.EmuMemory.{EmuMemory}
use Rattle.emu_machine.specs.declared.netlist.EmuRead.{EmuRead}
use Rattle.emu_machine.specs.declared.netlist.EmuRegister.{EmuRegister}
use Rattle.emu_machine.specs.declared.schedule.Action.{Action}
use Rattle.emu_machine.specs.declared.schedule.Action.TheVariants as action
use Rattle.emu_machine.specs.declared.schedule.Frame.{Frame}
use Rattle.emu_machine.specs.declared.schedule.Slot.{Slot}
use Rattle.emu_machine.specs.declared.map.Subject.{Subject}
use Rattle.emu_machine.specs.declared.map.Subject.TheVariants.{Net, Next}
use Rattle.emu_machine.specs.declared.map.Spot.{Spot}
use Rattle.emu_machine.specs.declared.place.Place.{Place}
use Rattle.emu_machine.specs.declared.place.Place.TheVariants as place
use Rattle.emu_machine.specs.declared.place.Thing.{Thing}
use Rattle.emu_machine.specs.declared.place.Thing.TheVariants as thing
use Rattle.emu_machine.specs.declared.rule.Rule.{Rule}
use Rattle.emu_machine.specs.declared.rule.Rule.TheVariants.{A1, A2, A3, A4, A5, A6, A7, A8, A9, A10, A11, A12}
use Rattle.emu_machine.specs.Results.{Results}
use Rattle.emu_machine.specs.Netlist.{chip_at, through_gates, IsOnCycle}
use Rattle.emu_machine.specs.State.{frame_slots, actions_of, Timed, timed, timed_actions, is_under_way, is_last, read_port, write_port}
use Rattle.emu_machine.specs.Mapped.{subject, is_kept, chip_map}
use Rattle.emu_machine.specs.Marks.{Mark, no_mark, only_before, MarkState, gate_mark, driver_mark, net_mark, marks_at, writes_of}
use Rattle.emu_machine.specs.Origins.{same_subject, has_subject, gate_fits, register_fits, memory_fits, keeps_read}

-- what is judged: a design, its groups, a board, and results for them
pub record Case : Type 0 where
  pub design : Parts
  pub groups : List Group
  pub board : BoardPlan
  pub results : Results

-- for each frame, a test that tells the influence of its group
abbrev pub Influences : Case → (ℕ → NodeId → Bool) → Type 0
Influences c inside = (k : ℕ) (g : Group) → slice_get (all_groups c.design c.groups) k ≡ Some g → IsInfluence c.design g (inside k)

abbrev pub rule_number : Rule → ℕ
rule_number A1 = 1
rule_number A2 = 2
rule_number A3 = 3
rule_number A4 = 4
rule_number A5 = 5
rule_number A6 = 6
rule_number A7 = 7
rule_number A8 = 8
rule_number A9 = 9
rule_number A10 = 10
rule_number A11 = 11
rule_number A12 = 12

-- ## A3: what gates and memories weigh

abbrev pub element_weight : EmuGate → Option Element → ℕ
element_weight gate (Some (element.Gate op inputs output)) = length gate.inputs
element_weight gate (Some (element.Latch l)) = 8
element_weight gate other = 0

abbrev pub driver_weight : Parts → EmuGate → Driver → ℕ
driver_weight p gate (driven.Elem e) = element_weight gate (slice_get p.elements e.place)
driver_weight p gate other = 0

-- a copied gate weighs its inputs, a next gate and a latch gate 8, and every other gate nothing
abbrev pub subject_weight : Parts → EmuGate → Option Subject → ℕ
subject_weight p gate (Some (Net n)) = driver_weight p gate (driver p n.place)
subject_weight p gate (Some (Next e)) = 8
subject_weight p gate other = 0

abbrev pub memory_weight : EmuMemory → ℕ
memory_weight memory = words_weight memory.address_bits memory.width

abbrev pub chip_weight : Case → ℕ → ℕ
chip_weight c k =
    sum_by (λ gate. subject_weight c.design gate (subject c.results k gate.output.place)) (chip_at c.results.net k).gates
    + sum_by memory_weight (chip_at c.results.net k).memories

-- ## A4: the frames are those of the groups

-- a frame fits its group where it has its name and 1 to the board's number of slots
abbrev pub frame_fits : Case → Frame → Group → Bool
frame_fits c frame group =
    bytes_eq frame.group group.name && nat_lt 0 (length frame.slots) && nat_le (length frame.slots) c.board.slots

-- whether a frame is there without a group, or a group without a frame, or they do not fit
abbrev pub frame_differs : Case → Option Frame → Option Group → Bool
frame_differs c None None = false
frame_differs c None (Some group) = true
frame_differs c (Some frame) None = true
frame_differs c (Some frame) (Some group) = not (frame_fits c frame group)

-- ## A5: actions name what is there

-- the actions of slot `t` of frame `k`
abbrev pub slot_actions : Case → ℕ → ℕ → List Action
slot_actions c k t = actions_of (frame_slots c.results k) t

abbrev pub register_of : List Chip → ℕ → ℕ → Option EmuRegister
register_of chips k r = slice_get (chip_at chips k).registers r

abbrev pub register_at : Case → ℕ → ℕ → Option EmuRegister
register_at c k r = register_of c.results.net k r

-- a register takes what `input` and `send` give where it has no D, and is loaded where it has one
abbrev pub is_hold : Option EmuRegister → Bool
is_hold None = false
is_hold (Some register) = not (is_some register.d) && not (is_some register.enable)

abbrev pub is_loaded : Option EmuRegister → Bool
is_loaded None = false
is_loaded (Some register) = is_some register.d

abbrev pub is_in_group : Case → ℕ → ℕ → Bool
is_in_group c k n = option_map_or (λ g. includes g.nets n) (slice_get (all_groups c.design c.groups) k) false

-- a `send` of a net that is there, into a register at the far end that is given what it holds, fits where it
-- arrives within the slots of its frame
abbrev pub send_fits : List Chip → ℕ → ℕ → ChipNetId → ℕ → Option Wire → Bool
send_fits chips slots t net register None = false
send_fits chips slots t net register (Some ends) =
    nat_lt net.place (chip_at chips ends.from.place).nets
    && is_hold (register_of chips ends.to.place register)
    && nat_le (t + ends.latency) slots

-- An action of slot `t` fits in a frame of so many slots where all that it names is there and of its kind,
-- an `input` takes one of the inputs that the test tells, and a `send` arrives within the frame.
abbrev pub action_fits : List Chip → List Wire → (ℕ → Bool) → ℕ → ℕ → Action → Bool
action_fits chips wires is_input slots t (action.Input chip register net) =
    is_hold (register_of chips chip.place register.place) && is_input net.place
action_fits chips wires is_input slots t (action.Load chip register) = is_loaded (register_of chips chip.place register.place)
action_fits chips wires is_input slots t (action.Send wire net register) =
    send_fits chips slots t net register.place (slice_get wires wire.place)
action_fits chips wires is_input slots t (action.Write chip mem port) = is_some (write_port chips chip.place mem.place port)
action_fits chips wires is_input slots t (action.Read chip mem port) = is_some (read_port chips chip.place mem.place port)

-- an action of slot `t` fits in frame `k`, whose group tells the inputs
abbrev pub case_action_fits : Case → ℕ → ℕ → Action → Bool
case_action_fits c k t = action_fits c.results.net c.board.wires (is_in_group c k) (length (frame_slots c.results k)) t

-- ## A6: nothing is used twice in a slot

-- a thing that is used, if it is
abbrev pub used_if : Bool → Thing → List Thing
used_if test what = if test then what ∷ [] else []

-- what an action uses: a `send` its wire while it is under way, and in its last slot the register at the far
-- end; others, which last one slot, their register or memory
abbrev pub uses_of : List Wire → Bool → Bool → Action → List Thing
uses_of wires under_way last (action.Input chip register net) = used_if last (thing.Register chip register)
uses_of wires under_way last (action.Load chip register) = used_if last (thing.Register chip register)
uses_of wires under_way last (action.Send wire net register) =
    used_if under_way (thing.Wire wire)
    ++ option_map_or (λ ends. used_if last (thing.Register ends.to register)) (slice_get wires wire.place) []
uses_of wires under_way last (action.Write chip mem port) = used_if last (thing.Memory chip mem)
uses_of wires under_way last (action.Read chip mem port) = used_if last (thing.Memory chip mem)

-- what an action of a frame uses in slot `t`
abbrev pub uses_in : List Wire → ℕ → Timed → List Thing
uses_in wires t a = uses_of wires (is_under_way wires t a) (is_last wires t a) a.action

abbrev pub same_thing : Thing → Thing → Bool
same_thing (thing.Wire a) (thing.Wire b) = a.place == b.place
same_thing (thing.Wire a) (thing.Register b j) = false
same_thing (thing.Wire a) (thing.Memory b j) = false
same_thing (thing.Register a i) (thing.Wire b) = false
same_thing (thing.Register a i) (thing.Register b j) = (a.place == b.place) && (i.place == j.place)
same_thing (thing.Register a i) (thing.Memory b j) = false
same_thing (thing.Memory a i) (thing.Wire b) = false
same_thing (thing.Memory a i) (thing.Register b j) = false
same_thing (thing.Memory a i) (thing.Memory b j) = (a.place == b.place) && (i.place == j.place)

abbrev pub uses_thing : List Wire → ℕ → Thing → Timed → Bool
uses_thing wires t what a = list_any (same_thing what) (uses_in wires t a)

-- the actions of a frame that stand before place `j` of slot `t`, by slot and then by place
abbrev pub earlier_actions : List Slot → ℕ → ℕ → List Timed
earlier_actions slots t j = timed_actions (take t slots) ++ map (timed t) (take j (actions_of slots t))

-- the action at place `j` of slot `t` uses a thing in a slot in which an earlier action uses it too
pub record UsesAgain (wires : List Wire) (slots : List Slot) (t j : ℕ) (what : Thing) : Type 0 where
  pub action : Action
  pub here : slice_get (actions_of slots t) j ≡ Some action
  pub earlier : Timed
  pub before : Contains (earlier_actions slots t j) earlier
  pub slot : ℕ
  pub uses : uses_thing wires slot what (timed t action) ≡ true
  pub used : uses_thing wires slot what earlier ≡ true

-- ## A8 and A10: what is sent and taken in

abbrev pub same_subjects : Option Subject → Option Subject → Bool
same_subjects (Some a) (Some b) = same_subject a b
same_subjects a b = false

-- the subject of a register's Q
abbrev pub register_subject : Case → ℕ → ℕ → Option Subject
register_subject c k r = option_and_then (λ register. subject c.results k register.q.place) (register_at c k r)

-- a `send` goes between nets of one subject, and an `input` into a register of that net
abbrev pub keeps_subject : Case → Action → Bool
keeps_subject c (action.Input chip register net) = same_subjects (register_subject c chip.place register.place) (Some (Net net))
keeps_subject c (action.Send wire net register) =
    option_map_or (λ ends. same_subjects (subject c.results ends.from.place net.place) (register_subject c ends.to.place register.place)) (slice_get c.board.wires wire.place) false
keeps_subject c (action.Load chip register) = true
keeps_subject c (action.Write chip mem port) = true
keeps_subject c (action.Read chip mem port) = true

abbrev pub is_inside : (NodeId → Bool) → Option Subject → Bool
is_inside inside (Some (Net n)) = inside (node.Net n)
is_inside inside other = false

-- a `send` carries a net of the frame's influence
abbrev pub sends_inside : Case → (NodeId → Bool) → Action → Bool
sends_inside c inside (action.Send wire net register) =
    option_map_or (λ ends. is_inside inside (subject c.results ends.from.place net.place)) (slice_get c.board.wires wire.place) false
sends_inside c inside (action.Input chip register net) = true
sends_inside c inside (action.Load chip register) = true
sends_inside c inside (action.Write chip mem port) = true
sends_inside c inside (action.Read chip mem port) = true

-- ## A9: everything is mapped

-- whether net `n` of the design is the subject of a kept register of a chip
abbrev pub chip_keeps : Results → NetId → ℕ → Bool
chip_keeps r n k =
    list_any (λ (register, kept). kept && has_subject r k register.q (Net n)) (zip (chip_at r.net k).registers (chip_map r k).kept)

abbrev pub is_register_kept : Results → NetId → Bool
is_register_kept r n = list_any (λ (k, chip). chip_keeps r n k) (enumerate_from 0 r.net)

-- how many memories of chips stand for a memory of the design
abbrev pub times_named : Results → ℕ → ℕ
times_named r m = sum_by (λ entry. count_by (λ memory. memory.of.place == m) entry.memories) r.map.chips

-- the bits of the read ports of a memory that have a clock
abbrev pub clocked_bits : Memory → List NetId
clocked_bits memory = flat_map (λ port. if is_some port.clock then port.bits else []) memory.reads

abbrev pub bits_kept : Results → Memory → Bool
bits_kept r memory = list_all (is_register_kept r) (clocked_bits memory)

-- A flip-flop's or latch's output has a kept register. A memory stands on one chip once, and each bit of its
-- read ports with a clock has a kept register.
abbrev pub is_element_mapped : Parts → Results → Element → Bool
is_element_mapped p r (element.Gate op inputs output) = true
is_element_mapped p r (element.Flop f) = is_register_kept r f.q
is_element_mapped p r (element.Latch l) = is_register_kept r l.q
is_element_mapped p r (element.Memory m) =
    (times_named r m.place == 1) && option_map_or (bits_kept r) (slice_get p.memories m.place) true

abbrev pub spot_subject : Results → Spot → Option Subject
spot_subject r spot = subject r spot.chip.place spot.net.place

-- an output bit without a net of the map, a net without an output bit, or one of another subject
abbrev pub output_differs : Results → Option Spot → Option NetId → Bool
output_differs r None None = false
output_differs r None (Some n) = true
output_differs r (Some spot) None = true
output_differs r (Some spot) (Some n) = not (same_subjects (spot_subject r spot) (Some (Net n)))

-- ## A11: at the end of each frame all is done

abbrev pub end_marks : Case → (ℕ → NodeId → Bool) → ℕ → MarkState
end_marks c inside k =
    marks_at c.design c.results c.board.wires (inside k) (frame_slots c.results k) (length (frame_slots c.results k))

-- whether a net has "after" at the end of a frame
abbrev pub ends_after : Case → (ℕ → NodeId → Bool) → ℕ → ℕ → ChipNetId → Bool
ends_after c inside k chip n = (net_mark c.design c.results (inside k) (end_marks c inside k) chip n.place).after

abbrev pub is_kept_register : Results → ℕ → ℕ → Bool
is_kept_register r c k = unwrap_or (slice_get (chip_map r c).kept k) false

abbrev pub is_kept_read : Results → ℕ → ℕ → ℕ → Bool
is_kept_read r c m k =
    option_map_or (λ entry. keeps_read entry k) (slice_get (chip_map r c).memories m) false

abbrev pub register_ends : Case → (ℕ → NodeId → Bool) → ℕ → ℕ → ℕ → Option EmuRegister → Bool
register_ends c inside k chip i None = true
register_ends c inside k chip i (Some register) =
    not (is_kept_register c.results chip i) || ends_after c inside k chip register.q

-- a memory ends a frame unbroken and with all its write ports done
abbrev pub memory_ends : Case → (ℕ → NodeId → Bool) → ℕ → ℕ → ℕ → Bool
memory_ends c inside k chip m =
    not ((end_marks c inside k).broken chip m)
    && ((end_marks c inside k).standing chip m == length (writes_of c.design c.results chip m))

abbrev pub read_ends : Case → (ℕ → NodeId → Bool) → ℕ → ℕ → ℕ → ℕ → Option EmuRead → Bool
read_ends c inside k chip m i None = true
read_ends c inside k chip m i (Some port) =
    not (is_kept_read c.results chip m i) || list_all (ends_after c inside k chip) port.bits

-- ## A12: outputs show the state from before

-- the gate of a constant has "before"; other gates have their marks as in a frame
abbrev pub plain_driver_mark : Parts → Driver → List Mark → Mark
plain_driver_mark p (driven.Constant b) ms = only_before
plain_driver_mark p other ms = driver_mark p other ms

abbrev pub plain_gate_mark : Parts → Option Subject → List Mark → Mark
plain_gate_mark p (Some (Net n)) ms = plain_driver_mark p (driver p n.place) ms
plain_gate_mark p other ms = gate_mark p other ms

-- whether "before" comes to a net from what is kept, through gates alone and with no net widened
abbrev pub shows_before : Case → Spot → Bool
shows_before c spot =
    (through_gates (chip_at c.results.net spot.chip.place)
    (λ n. if is_kept c.results spot.chip.place n then only_before else no_mark)
    (λ gate ms. plain_gate_mark c.design (subject c.results spot.chip.place gate.output.place) ms)
    spot.net.place).before

-- ## Where each rule fails

-- what is there fails the test
abbrev pub fails_test : {X : Type 0} → (X → Bool) → Option X → Type 0
fails_test test None = ⊥
fails_test test (Some x) = test x ≡ false

abbrev pub action_at : Case → ℕ → ℕ → ℕ → Option Action
action_at c k t j = slice_get (slot_actions c k t) j

-- A1: there are as many modules as chips on the board
abbrev pub FailsA1 : Case → Place → Type 0
FailsA1 c (place.Chips modules) = (modules ≡ length c.results.net) × (modules ≢ length c.board.rooms)
FailsA1 c other = ⊥

-- A2: no gate lies on a cycle of gates
abbrev pub FailsA2 : Case → Place → Type 0
FailsA2 c (place.Gate chip gate) = IsOnCycle (chip_at c.results.net chip.place) gate
FailsA2 c other = ⊥

-- A3: no chip weighs more than its room
abbrev pub FailsA3 : Case → Place → Type 0
FailsA3 c (place.Weight chip weight) =
    (weight ≡ chip_weight c chip.place) × IsSomeAnd (slice_get c.board.rooms chip.place) (λ room. room < weight)
FailsA3 c other = ⊥

-- A4: frame `k` is that of group `k`, with 1 to the board's number of slots, and none is more or missing
abbrev pub FailsA4 : Case → Place → Type 0
FailsA4 c (place.Frame k) =
    IsTrue (frame_differs c (slice_get c.results.schedule.frames k) (slice_get (all_groups c.design c.groups) k))
FailsA4 c other = ⊥

-- A5: actions name what is there and of its kind, and what is sent arrives within the frame
abbrev pub FailsA5 : Case → Place → Type 0
FailsA5 c (place.Action k t j) = fails_test (case_action_fits c k t) (action_at c k t j)
FailsA5 c other = ⊥

-- A6: in a slot nothing is used twice
abbrev pub FailsA6 : Case → Place → Type 0
FailsA6 c (place.Again k t j what) = UsesAgain c.board.wires (frame_slots c.results k) t j what
FailsA6 c other = ⊥

-- a memory of a chip with its entry in the map
abbrev pub mapped_memory_fits : Case → ℕ → ℕ → EmuMemory → Bool
mapped_memory_fits c k m memory =
    option_map_or (λ entry. memory_fits c.design c.results k entry memory) (slice_get (chip_map c.results k).memories m) false

-- A7: gates, registers and memories are what their subjects say
abbrev pub FailsA7 : Case → Place → Type 0
FailsA7 c (place.Gate chip gate) =
    fails_test (gate_fits c.design c.results chip.place) (slice_get (chip_at c.results.net chip.place).gates gate)
FailsA7 c (place.Register chip register) =
    fails_test (register_fits c.design c.results chip.place) (slice_get (chip_at c.results.net chip.place).registers register.place)
FailsA7 c (place.Memory chip mem) =
    fails_test (mapped_memory_fits c chip.place mem.place) (slice_get (chip_at c.results.net chip.place).memories mem.place)
FailsA7 c other = ⊥

-- A8: what is sent or taken in keeps its subject
abbrev pub FailsA8 : Case → Place → Type 0
FailsA8 c (place.Action k t j) = fails_test (keeps_subject c) (action_at c k t j)
FailsA8 c other = ⊥

-- A9: input bits, flip-flops, latches, memories, bits of clocked read ports and output bits are mapped
abbrev pub FailsA9 : Case → Place → Type 0
FailsA9 c (place.Input n) = IsTrue (includes (port_bits c.design.inputs) n.place && not (is_register_kept c.results n))
FailsA9 c (place.Element e) = fails_test (is_element_mapped c.design c.results) (slice_get c.design.elements e.place)
FailsA9 c (place.Output k) =
    IsTrue (output_differs c.results (slice_get c.results.map.outputs k) (slice_get (port_bits c.design.outputs) k))
FailsA9 c other = ⊥

-- A10: what a frame sends is in the influence of its group
abbrev pub FailsA10 : Case → (ℕ → NodeId → Bool) → Place → Type 0
FailsA10 c inside (place.Action k t j) = fails_test (sends_inside c (inside k)) (action_at c k t j)
FailsA10 c inside other = ⊥

abbrev pub has_frame : Case → ℕ → Bool
has_frame c k = is_some (slice_get c.results.schedule.frames k)

-- A11: at a frame's end what is kept has "after", and each memory is unbroken with all writes done
abbrev pub FailsA11 : Case → (ℕ → NodeId → Bool) → Place → Type 0
FailsA11 c inside (place.EndRegister k chip register) =
    IsTrue (has_frame c k && not (register_ends c inside k chip.place register.place (register_at c chip.place register.place)))
FailsA11 c inside (place.EndMemory k chip mem) =
    IsTrue (has_frame c k && is_some (slice_get (chip_at c.results.net chip.place).memories mem.place) && not (memory_ends c inside k chip.place mem.place))
FailsA11 c inside (place.EndRead k chip mem port) =
    IsTrue (has_frame c k && not (read_ends c inside k chip.place mem.place port (read_port c.results.net chip.place mem.place port)))
FailsA11 c inside other = ⊥

-- A12: the net of each output has "before" from what is kept, through gates alone
abbrev pub FailsA12 : Case → Place → Type 0
FailsA12 c (place.Output k) = fails_test (shows_before c) (slice_get c.results.map.outputs k)
FailsA12 c other = ⊥

-- a rule fails at a place
abbrev pub Fails : Case → (ℕ → NodeId → Bool) → Rule → Place → Type 0
Fails c inside A1 at = FailsA1 c at
Fails c inside A2 at = FailsA2 c at
Fails c inside A3 at = FailsA3 c at
Fails c inside A4 at = FailsA4 c at
Fails c inside A5 at = FailsA5 c at
Fails c inside A6 at = FailsA6 c at
Fails c inside A7 at = FailsA7 c at
Fails c inside A8 at = FailsA8 c at
Fails c inside A9 at = FailsA9 c at
Fails c inside A10 at = FailsA10 c inside at
Fails c inside A11 at = FailsA11 c inside at
Fails c inside A12 at = FailsA12 c at

-- a rule holds where it fails at no place
abbrev pub Holds : Case → (ℕ → NodeId → Bool) → Rule → Type 0
Holds c inside rule = (at : Place) → Fails c inside rule at → ⊥

-- the results are accepted: all twelve rules hold
pub record IsAccepted (c : Case) : Type 0 where
  pub inside : ℕ → NodeId → Bool
  pub influences : Influences c inside
  pub rules : (rule : Rule) → Holds c inside rule

-- ## The first failure

-- the numbers of a thing, a wire before a register and a register before a memory
abbrev pub thing_key : Thing → List ℕ
thing_key (thing.Wire wire) = 0 ∷ wire.place ∷ []
thing_key (thing.Register chip register) = 1 ∷ chip.place ∷ register.place ∷ []
thing_key (thing.Memory chip mem) = 2 ∷ chip.place ∷ mem.place ∷ []

-- the numbers by which the places of one rule are ordered, the most weighty first
abbrev pub place_key : Place → List ℕ
place_key (place.Chips modules) = []
place_key (place.Gate chip gate) = chip.place ∷ 0 ∷ gate ∷ []
place_key (place.Weight chip weight) = chip.place ∷ []
place_key (place.Frame k) = k ∷ []
place_key (place.Action k t j) = k ∷ t ∷ j ∷ []
place_key (place.Again k t j what) = k ∷ t ∷ j ∷ thing_key what
place_key (place.Register chip register) = chip.place ∷ 1 ∷ register.place ∷ []
place_key (place.Memory chip mem) = chip.place ∷ 2 ∷ mem.place ∷ []
place_key (place.Input n) = 0 ∷ n.place ∷ []
place_key (place.Element e) = 1 ∷ e.place ∷ []
place_key (place.Output k) = 2 ∷ k ∷ []
place_key (place.EndRegister k chip register) = k ∷ chip.place ∷ 0 ∷ register.place ∷ []
place_key (place.EndMemory k chip mem) = k ∷ chip.place ∷ 1 ∷ mem.place ∷ []
place_key (place.EndRead k chip mem port) = k ∷ chip.place ∷ 1 ∷ mem.place ∷ port ∷ []

-- two keys by the first number in which they differ; a key that ends comes before one that goes on
abbrev pub Precedes : List ℕ → List ℕ → Type 0
Precedes keys [] = ⊥
Precedes [] (b ∷ bs) = Unit {0}
Precedes (a ∷ rest) (b ∷ bs) = (a < b) ⊎ ((a ≡ b) × Precedes rest bs)

-- the first failure: the least rule that fails where all rules before it hold, at its least place
pub record IsFirstFailure (c : Case) (rule : Rule) (at : Place) : Type 0 where
  pub inside : ℕ → NodeId → Bool
  pub influences : Influences c inside
  pub earlier : (other : Rule) → rule_number other < rule_number rule → Holds c inside other
  pub here : Fails c inside rule at
  pub least : (other : Place) → Precedes (place_key other) (place_key at) → Fails c inside rule other → ⊥
