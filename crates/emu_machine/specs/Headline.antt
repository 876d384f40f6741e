-- That a machine agrees with the design that it stands for, and the statement that acceptance gives.
-- The rules are told in docs/RULES.md, "Agreement" and "The headline".
use Rattle.std.specs.Prelude.{◌≡◌, ◌≤◌, ℕ, ◌==◌, ◌&&◌, Bool, true, false, Some, List, [], ◌∷◌, map, slice_get, count_by, Contains}
use Rattle.id_arena.specs.declared.keys.NetId.{NetId}
use Rattle.id_arena.specs.declared.keys.ElemId.{ElemId}
use Rattle.id_arena.specs.declared.keys.MemId.{MemId}
use Rattle.id_arena.specs.declared.keys.ChipNetId.{ChipNetId}
use Rattle.id_arena.specs.declared.wire.Wire.{Wire}
use Rattle.design_core.specs.declared.element.Edge.{Edge}
use Rattle.design_core.specs.declared.element.Flop.{Flop}
use Rattle.design_core.specs.declared.element.ReadPort.{ReadPort}
use Rattle.design_core.specs.declared.element.WritePort.{WritePort}
use Rattle.design_core.specs.declared.element.Driver.TheVariants as driven
use Rattle.design_core.specs.declared.values.PortBit.{PortBit}
use Rattle.design_core.specs.declared.values.Event.{Event}
use Rattle.design_core.specs.Design.{driver, port_bits}
use Rattle.design_core.specs.Valuation.{Valuation, values, addressed_bit}
use Rattle.design_core.specs.Settled.{Opening, OpeningFits}
use Rattle.design_core.specs.Event.{stores, IsHistory, HasOneHistory}
use Rattle.design_core.specs.Influence.{Group, all_groups}
use Rattle.emu_machine.specs.declared.netlist.EmuRegister.{EmuRegister}
use Rattle.emu_machine.specs.declared.netlist.EmuWrite.{EmuWrite}
use Rattle.emu_machine.specs.declared.schedule.Action.{Action}
use Rattle.emu_machine.specs.declared.schedule.Action.TheVariants as action
use Rattle.emu_machine.specs.declared.map.Subject.TheVariants.{Net}
use Rattle.emu_machine.specs.declared.map.Spot.{Spot}
use Rattle.emu_machine.specs.State.{State, net_value, net_values, write_port, frame_slots, actions_of, Timed, timed_actions, is_under_way, state_in_frame, after_frame}
use Rattle.emu_machine.specs.Mapped.{subject, memory_of, flop_at, design_write, design_read, flop_takes, flop_next, read_takes, HoldsState, IsLoaded}
use Rattle.emu_machine.specs.Acceptance.{Case, register_at, is_kept_register}

-- an event names a group that has a frame, and gives values to inputs of that group alone
pub record EventFits (c : Case) (event : Event) : Type 0 where
  pub group : Group
  pub named : slice_get (all_groups c.design c.groups) event.group.place ≡ Some group
  pub inputs : (b : PortBit) → Contains event.values b → Contains group.nets b.net

abbrev pub EventsFit : Case → List Event → Type 0
EventsFit c events = (k : ℕ) (event : Event) → slice_get events k ≡ Some event → EventFits c event

-- what each event gives to the inputs
abbrev pub event_values : List Event → List (List PortBit)
event_values events = map (λ event. event.values) events

-- The machine agrees with a valuation: what is kept holds its subject's value, each memory holds its
-- original's words, and the net of each output bit shows that bit.
pub record Agrees (c : Case) (v : Valuation) (x : State) : Type 0 where
  pub state : HoldsState c.design c.results v x
  pub outputs : (k : ℕ) (spot : Spot) (n : NetId)
      → slice_get c.results.map.outputs k ≡ Some spot
      → slice_get (port_bits c.design.outputs) k ≡ Some n
      → net_value c.results.net x spot.chip.place spot.net.place ≡ v.net n.place

-- A load of a kept register that stands for a flip-flop finds at its D the value that the flip-flop takes,
-- and at its enable whether it takes one.
abbrev pub LoadIsSampled : Case → Valuation → Valuation → State → ℕ → ℕ → Type 0
LoadIsSampled c v w x chip k =
    (register : EmuRegister) (d enable : ChipNetId) (n : NetId) (e : ElemId) (f : Flop)
    → register_at c chip k ≡ Some register
    → is_kept_register c.results chip k ≡ true
    → register.d ≡ Some d
    → register.enable ≡ Some enable
    → subject c.results chip register.q.place ≡ Some (Net n)
    → driver c.design n.place ≡ driven.Elem e
    → flop_at c.design e.place ≡ Some f
    → (net_value c.results.net x chip d.place ≡ flop_next v w f)
    × (net_value c.results.net x chip enable.place ≡ flop_takes v w f)

-- A load of a kept register that stands for a bit of a read port with a clock finds at its D that bit of the
-- word from before the event at the address from before it, and at its enable whether the port takes one.
abbrev pub ReadIsSampled : Case → Valuation → Valuation → State → ℕ → ℕ → Type 0
ReadIsSampled c v w x chip k =
    (register : EmuRegister) (d enable : ChipNetId) (n : NetId) (m : MemId) (place bit : ℕ) (port : ReadPort) (clock : Edge)
    → register_at c chip k ≡ Some register
    → is_kept_register c.results chip k ≡ true
    → register.d ≡ Some d
    → register.enable ≡ Some enable
    → subject c.results chip register.q.place ≡ Some (Net n)
    → driver c.design n.place ≡ driven.Read m place bit
    → design_read c.design m.place place ≡ Some port
    → port.clock ≡ Some clock
    → (net_value c.results.net x chip d.place ≡ addressed_bit v m.place port bit)
    × (net_value c.results.net x chip enable.place ≡ read_takes v w port)

-- A write of a memory finds at its enable whether the design's port stores, and at its address and data
-- their values from before the event.
abbrev pub WriteIsSampled : Case → Valuation → Valuation → State → ℕ → ℕ → ℕ → Type 0
WriteIsSampled c v w x chip m k =
    (of : ℕ) (port : EmuWrite) (original : WritePort)
    → memory_of c.results chip m ≡ Some of
    → write_port c.results.net chip m k ≡ Some port
    → design_write c.design of k ≡ Some original
    → (net_value c.results.net x chip port.enable.place ≡ stores v w original)
    × (net_values c.results.net x chip port.address ≡ values v original.address)
    × (net_values c.results.net x chip port.feed ≡ values v original.feed)

abbrev pub ActionIsSampled : Case → Valuation → Valuation → State → Action → Type 0
ActionIsSampled c v w x (action.Load chip register) =
    LoadIsSampled c v w x chip.place register.place × ReadIsSampled c v w x chip.place register.place
ActionIsSampled c v w x (action.Write chip mem port) = WriteIsSampled c v w x chip.place mem.place port
ActionIsSampled c v w x (action.Input chip register net) = Unit {0}
ActionIsSampled c v w x (action.Send wire net register) = Unit {0}
ActionIsSampled c v w x (action.Read chip mem port) = Unit {0}

-- In the frame of an event from `v` to `w` every clock edge takes data that was settled before the event: in
-- each slot each action finds it in the state at the slot's start.
abbrev pub IsSampled : Case → Event → Valuation → Valuation → State → Type 0
IsSampled c event v w x =
    (t : ℕ) (a : Action)
    → Contains (actions_of (frame_slots c.results event.group.place) t) a
    → ActionIsSampled c v w (state_in_frame c.results c.board.wires event x t) a

-- whether an action sends over this wire
abbrev pub sends_over : ℕ → Action → Bool
sends_over w (action.Send wire net register) = wire.place == w
sends_over w (action.Input chip register net) = false
sends_over w (action.Load chip register) = false
sends_over w (action.Write chip mem port) = false
sends_over w (action.Read chip mem port) = false

-- whether wire `w` carries the value of an action in slot `t`: that of a `send` over it that is under way
abbrev pub is_carried : List Wire → ℕ → ℕ → Timed → Bool
is_carried wires w t a = sends_over w a.action && is_under_way wires t a

-- in each slot of each frame each wire carries at most one value
abbrev pub HasOneUse : Case → Type 0
HasOneUse c = (k t w : ℕ) → count_by (is_carried c.board.wires w t) (timed_actions (frame_slots c.results k)) ≤ 1

-- A machine runs together with a history, event by event: it agrees with the valuation at hand, the next
-- frame takes sampled data, and so on after that frame and that event.
abbrev pub RunsTogether : Case → Valuation → List Valuation → State → List Event → Type 0
RunsTogether c v [] x [] = Agrees c v x
RunsTogether c v (w ∷ ws) x (e ∷ es) =
    Agrees c v x × IsSampled c e v w x × RunsTogether c w ws (after_frame c.results c.board.wires e x) es
RunsTogether c v [] x (e ∷ es) = ⊥
RunsTogether c v (w ∷ ws) x [] = ⊥

-- For every opening and every list of events of the groups there is exactly one history; every machine
-- that is loaded from its first valuation runs together with it; and no wire ever carries two values in
-- one slot.
pub record Headline (c : Case) : Type 0 where
  pub one_history : (o : Opening) (events : List Event) → OpeningFits c.design o → EventsFit c events
      → HasOneHistory c.design o (event_values events)
  pub together : (o : Opening) (events : List Event) (v : Valuation) (vs : List Valuation) (x : State)
      → OpeningFits c.design o → EventsFit c events
      → IsHistory c.design o (event_values events) (v ∷ vs)
      → IsLoaded c.design c.results v x
      → RunsTogether c v vs x events
  pub one_use : HasOneUse c
