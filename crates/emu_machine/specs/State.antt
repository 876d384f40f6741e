-- The machine's state, and what slots, frames and runs make of it.
-- The rule is told in docs/RULES.md, "Actions, slots and frames".
use Rattle.std.specs.Prelude.{ℕ, zero, suc, ◌+◌, ◌==◌, ◌&&◌, nat_le, nat_lt, Bool, if◌then◌else◌, Option, Some, None, List, [], ◌∷◌, map, length, slice_get, position, unwrap_or, option_map, option_and_then, flat_map}
use Rattle.std.specs.List.{enumerate_from, filter}
use Rattle.std.specs.Option.{option_or, option_map_or}
use Rattle.id_arena.specs.declared.keys.ChipNetId.{ChipNetId}
use Rattle.id_arena.specs.declared.wire.Wire.{Wire}
use Rattle.design_core.specs.declared.values.PortBit.{PortBit}
use Rattle.design_core.specs.declared.values.Event.{Event}
use Rattle.design_core.specs.Operation.{op_value, number, bit_of}
use Rattle.design_core.specs.Event.{given}
use Rattle.emu_machine.specs.declared.netlist.Chip.{Chip}
use Rattle.emu_machine.specs.declared.netlist.EmuRegister.{EmuRegister}
use Rattle.emu_machine.specs.declared.netlist.EmuRead.{EmuRead}
use Rattle.emu_machine.specs.declared.netlist.EmuWrite.{EmuWrite}
use Rattle.emu_machine.specs.declared.schedule.Action.{Action}
use Rattle.emu_machine.specs.declared.schedule.Action.TheVariants.{Input, Load, Send, Write, Read}
use Rattle.emu_machine.specs.declared.schedule.Slot.{Slot}
use Rattle.emu_machine.specs.Results.{Results}
use Rattle.emu_machine.specs.Netlist.{chip_at, is_chip_net, through_gates}

-- What the machine holds: by chip and net the value of each register and of each read net, by chip,
-- memory and address each word, by net of the design the present outside value of each input, and by
-- wire the value that it carries.
pub record State : Type 0 where
  pub held : ℕ → ℕ → Bool
  pub word : ℕ → ℕ → ℕ → ℕ
  pub outside : ℕ → Bool
  pub carried : ℕ → Bool

-- the value of a net of a chip: what a register or read port holds there, or what its gate makes of its inputs
abbrev pub net_value : List Chip → State → ℕ → ℕ → Bool
net_value chips x c n = through_gates (chip_at chips c) (x.held c) (λ gate bits. op_value gate.op bits) n

abbrev pub net_values : List Chip → State → ℕ → List ChipNetId → List Bool
net_values chips x c nets = map (λ n. net_value chips x c n.place) nets

-- the number that nets of a chip show, from bit 0
abbrev pub net_number : List Chip → State → ℕ → List ChipNetId → ℕ
net_number chips x c nets = number (net_values chips x c nets)

abbrev pub read_port : List Chip → ℕ → ℕ → ℕ → Option EmuRead
read_port chips c m k = option_and_then (λ memory. slice_get memory.reads k) (slice_get (chip_at chips c).memories m)

abbrev pub write_port : List Chip → ℕ → ℕ → ℕ → Option EmuWrite
write_port chips c m k = option_and_then (λ memory. slice_get memory.writes k) (slice_get (chip_at chips c).memories m)

-- what a register of a chip is given, if net `n` of chip `c` is its Q
abbrev pub on_register : {A : Type 0} → List Chip → ℕ → ℕ → (EmuRegister → Option A) → ℕ → ℕ → Option A
on_register chips at k gives c n =
    if at == c
    then option_and_then (λ register. if is_chip_net n register.q then gives register else None) (slice_get (chip_at chips c).registers k)
    else None

-- what a register is given by a load: its D, where it has one; with an enable only where that is 1
abbrev pub loaded_value : (ChipNetId → Bool) → Option ChipNetId → Option ChipNetId → Option Bool
loaded_value value None enable = None
loaded_value value (Some d) None = Some (value d)
loaded_value value (Some d) (Some enable) = if value enable then Some (value d) else None

-- a net of a read port is given its bit of the word at the port's address
abbrev pub read_bit : List Chip → State → ℕ → ℕ → EmuRead → ℕ → Option Bool
read_bit chips x c m port n =
    option_map (λ b. bit_of (x.word c m (net_number chips x c port.address)) b) (position (is_chip_net n) port.bits)

-- what a `send` of net `net` gives at its far end: over a latency of one slot what the net shows now, and
-- over a longer one what the wire carries
abbrev pub arriving : List Chip → State → Wire → ℕ → ChipNetId → Bool
arriving chips x ends wire net =
    if ends.latency == 1 then net_value chips x ends.from.place net.place else x.carried wire

-- the value that an action gives to net `n` of chip `c` in its last slot, if it gives one; all is read from
-- the state `x`
abbrev pub action_value : List Chip → List Wire → State → Action → ℕ → ℕ → Option Bool
action_value chips wires x (Input chip register net) c n =
    on_register chips chip.place register.place (λ r. Some (x.outside net.place)) c n
action_value chips wires x (Load chip register) c n =
    on_register chips chip.place register.place (λ r. loaded_value (λ m. net_value chips x chip.place m.place) r.d r.enable) c n
action_value chips wires x (Send wire net register) c n =
    option_and_then (λ ends. on_register chips ends.to.place register.place (λ r. Some (arriving chips x ends wire.place net)) c n) (slice_get wires wire.place)
action_value chips wires x (Write chip mem port) c n = None
action_value chips wires x (Read chip mem port) c n =
    if chip.place == c then option_and_then (λ r. read_bit chips x c mem.place r n) (read_port chips c mem.place port) else None

-- a write port whose enable is 1 gives its data to the word at its address
abbrev pub stored_word : List Chip → State → ℕ → EmuWrite → ℕ → Option ℕ
stored_word chips x c port a =
    if net_value chips x c port.enable.place && (net_number chips x c port.address == a)
    then Some (net_number chips x c port.feed)
    else None

-- the number that an action gives to a word, if it gives one
abbrev pub action_word : List Chip → State → Action → ℕ → ℕ → ℕ → Option ℕ
action_word chips x (Write chip mem port) c m a =
    if (chip.place == c) && (mem.place == m) then option_and_then (λ w. stored_word chips x c w a) (write_port chips c m port) else None
action_word chips x (Input chip register net) c m a = None
action_word chips x (Load chip register) c m a = None
action_word chips x (Send wire net register) c m a = None
action_word chips x (Read chip mem port) c m a = None

-- the value that an action gives to wire `w` to carry, if it gives one: a `send` that of its net
abbrev pub action_carried : List Chip → List Wire → State → Action → ℕ → Option Bool
action_carried chips wires x (Send wire net register) w =
    if wire.place == w then option_map (λ ends. net_value chips x ends.from.place net.place) (slice_get wires w) else None
action_carried chips wires x (Input chip register net) w = None
action_carried chips wires x (Load chip register) w = None
action_carried chips wires x (Write chip mem port) w = None
action_carried chips wires x (Read chip mem port) w = None

-- what the first of some actions to give anything gives
abbrev pub first_given : {A : Type 0} → (Action → Option A) → List Action → Option A
first_given gives [] = None
first_given gives (a ∷ actions) = option_or (gives a) (first_given gives actions)

-- ## Which actions a slot begins and ends

-- the actions of slot `t`
abbrev pub actions_of : List Slot → ℕ → List Action
actions_of slots t = option_map_or (λ slot. slot.actions) (slice_get slots t) []

-- an action with the slot that it stands in
pub record Timed : Type 0 where
  pub slot : ℕ
  pub action : Action

abbrev pub timed : ℕ → Action → Timed
timed t a = record { slot = t; action = a }

-- all actions of a frame with their slots, by slot and then by place
abbrev pub timed_actions : List Slot → List Timed
timed_actions slots = flat_map (λ (t, slot). map (timed t) slot.actions) (enumerate_from 0 slots)

-- how many slots an action lasts: a `send` the latency of its wire, every other action one
abbrev pub slots_taken : List Wire → Action → ℕ
slots_taken wires (Send wire net register) = option_map_or (λ ends. ends.latency) (slice_get wires wire.place) 1
slots_taken wires (Input chip register net) = 1
slots_taken wires (Load chip register) = 1
slots_taken wires (Write chip mem port) = 1
slots_taken wires (Read chip mem port) = 1

-- an action is under way in slot `t`
abbrev pub is_under_way : List Wire → ℕ → Timed → Bool
is_under_way wires t a = nat_le a.slot t && nat_lt t (a.slot + slots_taken wires a.action)

-- slot `t` is the last of an action
abbrev pub is_last : List Wire → ℕ → Timed → Bool
is_last wires t a = nat_le a.slot t && (t + 1 == a.slot + slots_taken wires a.action)

-- the actions of a frame whose last slot is `t`
abbrev pub ending : List Wire → List Slot → ℕ → List Action
ending wires slots t = map (λ a. a.action) (filter (is_last wires t) (timed_actions slots))

-- ## Slots, frames and runs

-- The state after slot `t`: registers and read nets take what the actions give that end in it, words and
-- wires what the actions give that stand in it, and all else is as before.
abbrev pub slot_step : List Chip → List Wire → List Slot → ℕ → State → State
slot_step chips wires slots t x =
    record {
      held = λ c n. unwrap_or (first_given (λ a. action_value chips wires x a c n) (ending wires slots t)) (x.held c n);
      word = λ c m a. unwrap_or (first_given (λ action. action_word chips x action c m a) (actions_of slots t)) (x.word c m a);
      outside = x.outside;
      carried = λ w. unwrap_or (first_given (λ a. action_carried chips wires x a w) (actions_of slots t)) (x.carried w);
    }

-- the state with the values of an event in place of the outside values
abbrev pub present : List PortBit → State → State
present event x = record x { outside = λ n. unwrap_or (given event n) (x.outside n) }

-- the state at the start of slot `t`, from that at the start of the first slot
abbrev pub state_at : List Chip → List Wire → List Slot → State → ℕ → State
state_at chips wires slots x zero = x
state_at chips wires slots x (suc t) = slot_step chips wires slots t (state_at chips wires slots x t)

abbrev pub frame_slots : Results → ℕ → List Slot
frame_slots r k = option_map_or (λ frame. frame.slots) (slice_get r.schedule.frames k) []

-- the state at the start of slot `t` of the frame of an event: its values are presented, and the slots of its
-- group's frame follow
abbrev pub state_in_frame : Results → List Wire → Event → State → ℕ → State
state_in_frame r wires event x t = state_at r.net wires (frame_slots r event.group.place) (present event.values x) t

-- the state after all slots of the frame of an event
abbrev pub after_frame : Results → List Wire → Event → State → State
after_frame r wires event x = state_in_frame r wires event x (length (frame_slots r event.group.place))

-- the states after each of some events
abbrev pub run_of : Results → List Wire → State → List Event → List State
run_of r wires x [] = []
run_of r wires x (e ∷ es) = after_frame r wires e x ∷ run_of r wires (after_frame r wires e x) es
