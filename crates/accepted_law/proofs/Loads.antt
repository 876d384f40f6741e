-- A register that is loaded under an enable and ends a frame with "after" was loaded from nets with "after"
-- alone: a load from others takes its mark away for the rest of the frame.
use Rattle.std.proofs.Common.{◌≡◌, ℕ, zero, suc, Bool, true, false, not, List, [], ◌∷◌, length, ◌<◌, arith, refl, subst, sym, ap, ◌∙◌, inl, inr, if◌then◌else◌}
use Rattle.std.specs.Prelude.{◌==◌, ◌&&◌, ◌||◌, ◌⊎◌, Option, Some, None, slice_get, unwrap_or, is_some, position, option_map, option_and_then}
use Rattle.std.specs.Option.{option_or}
use Rattle.std.proofs.lemmas.Option.{none-some, same_Some}
use Rattle.id_arena.specs.declared.keys.ChipNetId.{ChipNetId}
use Rattle.id_arena.specs.declared.wire.Wire.{Wire}
use Rattle.design_core.specs.declared.node.NodeId.{NodeId}
use Rattle.design_core.specs.declared.node.NodeId.TheVariants as node
use Rattle.emu_machine.specs.declared.netlist.EmuGate.{EmuGate}
use Rattle.emu_machine.specs.declared.netlist.EmuRead.{EmuRead}
use Rattle.emu_machine.specs.declared.netlist.EmuRegister.{EmuRegister}
use Rattle.emu_machine.specs.declared.map.Subject.{Subject}
use Rattle.emu_machine.specs.declared.map.Subject.TheVariants.{Net, Up, Down, Take, Next, TakeWrite, Old, TakeRead}
use Rattle.emu_machine.specs.declared.schedule.Action.{Action}
use Rattle.emu_machine.specs.declared.schedule.Action.TheVariants as action
use Rattle.emu_machine.specs.Netlist.{chip_at, is_chip_net, net_drivers}
use Rattle.emu_machine.specs.State.{on_register, first_given, read_port, ending, frame_slots}
use Rattle.emu_machine.specs.Mapped.{subject}
use Rattle.emu_machine.specs.Marks.{Mark, MarkState, both_marks, only_after, after_if, has_some, widened, gate_mark, net_mark, net_marks, load_mark, clock_of_read, read_mark, arriving_mark, writes_of, action_mark, marks_step, marks_at}
use Rattle.emu_machine.specs.Acceptance.{Case, register_at, slot_actions, is_hold, send_fits, case_action_fits}
use Rattle.emu_machine.specs.Law.{IsCase}
use Rattle.facts.proofs.Counting.{positioned}
use Rattle.facts.proofs.Tests.{no, left, right, number_same, same_number}
use Rattle.facts.proofs.Lists.{Has}
use Rattle.marks_law.specs.Slots.{FrameFits}
use Rattle.marks_law.proofs.Given.{on_both}
use Rattle.marks_law.proofs.FrameActions.{StandsAt, stands_at, EndsIn, ends_in}
use Rattle.slot_law.proofs.Targets.{RegisterAt, same_register, no_bit, on_register_net}
use Rattle.slot_law.proofs.Reading.{bit_at}
use Rattle.slot_law.proofs.Memories.{read_port_at}
use Rattle.accepted_law.proofs.Ending.{from_then_on, in_slots, ends_here}

-- ## Where all actions that give anything give the same

module _ {A : Type 0} (gives : Action → Option A) (it : A) where
  -- nothing is given, or this
  abbrev pub IsIt : Option A → Type 0
  IsIt o = (o ≡ None) ⊎ (o ≡ Some it)

  it_or : (o q : Option A) → IsIt o → IsIt q → IsIt (option_or o q)
  it_or o q (inl e) h = subst (λ (z : Option A). IsIt (option_or z q)) (sym e) h
  it_or o q (inr e) h = inr (ap (λ (z : Option A). option_or z q) e)

  first_is_it : (actions : List Action) → ((j : ℕ) (a : Action) → slice_get actions j ≡ Some a → IsIt (gives a)) → IsIt (first_given gives actions)
  first_is_it [] each = inl refl
  first_is_it (a ∷ actions) each = it_or (gives a) (first_given gives actions) (each 0 a refl) (first_is_it actions (λ j. each (suc j)))

  it_before : (o q : Option A) → IsIt o → q ≡ Some it → option_or o q ≡ Some it
  it_before o q (inl e) h = ap (λ (z : Option A). option_or z q) e ∙ h
  it_before o q (inr e) h = ap (λ (z : Option A). option_or z q) e

  -- where one action gives it, it is given
  it_is_given : (actions : List Action) → ((j : ℕ) (a : Action) → slice_get actions j ≡ Some a → IsIt (gives a))
      → (j : ℕ) (a : Action) → slice_get actions j ≡ Some a → gives a ≡ Some it → first_given gives actions ≡ Some it
  it_is_given [] each j a at e = absurd (none-some a at)
  it_is_given (b ∷ actions) each zero a at e = ap (λ (z : Option A). option_or z (first_given gives actions)) (ap gives (same_Some b a at) ∙ e)
  it_is_given (b ∷ actions) each (suc j) a at e =
      it_before (gives b) (first_given gives actions) (each 0 b refl) (it_is_given actions (λ i. each (suc i)) j a at e)

-- ## Widening gives no mark to a net without one

none_wider : (inside : NodeId → Bool) (o : Option Subject) (m : Mark) → has_some m ≡ false → widened inside o m ≡ m
none_wider inside None m h = refl
none_wider inside (Some (Net n)) m h = ap (λ b. if b && not (inside (node.Net n)) then both_marks else m) h
none_wider inside (Some (Up n)) m h = refl
none_wider inside (Some (Down n)) m h = refl
none_wider inside (Some (Take e)) m h = refl
none_wider inside (Some (Next e)) m h = refl
none_wider inside (Some (TakeWrite m2 k)) m h = refl
none_wider inside (Some (Old m2 k b)) m h = refl
none_wider inside (Some (TakeRead m2 k)) m h = refl

and_last : (a b : Bool) → b ≡ false → (a && b) ≡ false
and_last true b h = h
and_last false b h = refl

after_some : (m : Mark) → has_some m ≡ false → m.after ≡ true → ⊥
after_some m h e = go m.before m.after h e
  where
    go : (a b : Bool) → (a || b) ≡ false → b ≡ true → ⊥
    go true b h e = no (sym h)
    go false b h e = no (sym h ∙ e)

module _ (c : Case) (frame : ℕ) (is : IsCase c) (fit : FrameFits c frame) (inside : NodeId → Bool) (chip i : ℕ) (register : EmuRegister) (at : register_at c chip i ≡ Some register)
    (d enable : ChipNetId) (has_d : register.d ≡ Some d) (has_enable : register.enable ≡ Some enable)
    (one : net_drivers (chip_at c.results.net chip) register.q.place ≡ 1) where
  mine : RegisterAt (chip_at c.results.net chip) register.q.place
  mine = record { place = i; register = register; at = at; q = refl }

  -- another register with the same Q is the same
  is_only : (j : ℕ) (other : EmuRegister) → slice_get (chip_at c.results.net chip).registers j ≡ Some other → other.q.place ≡ register.q.place → other ≡ register
  is_only j other found same =
      let here : j ≡ i = same_register (chip_at c.results.net chip) register.q.place one (record { place = j; register = other; at = found; q = same }) (record { place = i; register = register; at = at; q = refl }) in
      same_Some other register (sym found ∙ ap (slice_get (chip_at c.results.net chip).registers) here ∙ at)

  takes_no_input : (o : Option EmuRegister) → o ≡ Some register → is_hold o ≡ true → ⊥
  takes_no_input o e h =
      no (sym (ap (λ (z : Option ChipNetId). not (is_some z)) has_d) ∙ left _ _ (ap is_hold (sym e) ∙ h))

  module _ (s : MarkState) where
    abbrev mark : ChipNetId → Mark
    mark m = net_mark c.design c.results inside s chip m.place

    -- what a load gives the register
    abbrev pub loaded : Mark
    loaded = after_if ((mark d).after && (mark enable).after && has_some (mark register.q))

    abbrev load_of : EmuRegister → Option Mark
    load_of q = load_mark mark q.q q.d q.enable

    abbrev gives : Action → Option Mark
    gives a = action_mark c.design c.results c.board.wires inside s a chip register.q.place

    abbrev IsLoad : Option Mark → Type 0
    IsLoad o = (o ≡ None) ⊎ (o ≡ Some loaded)

    -- ## What actions give the register

    on_hold : (at_chip place : ℕ) (f : EmuRegister → Option Mark) → is_hold (register_at c at_chip place) ≡ true → IsLoad (on_register c.results.net at_chip place f chip register.q.place)
    on_hold at_chip place f hold =
        on_both c.results.net at_chip place chip register.q.place f f (λ o q. IsLoad o) (inl refl)
        (λ other here found same.
        absurd (takes_no_input (register_at c at_chip place) (ap (λ (j : ℕ). register_at c j place) here ∙ found ∙ ap Some (is_only place other found same)) hold))

    load_at : (at_chip : ℕ) → at_chip ≡ chip → (other : EmuRegister) → other ≡ register
        → load_mark (λ m. net_mark c.design c.results inside s at_chip m.place) other.q other.d other.enable ≡ Some loaded
    load_at at_chip here other same =
        ap (λ (j : ℕ). load_mark (λ m. net_mark c.design c.results inside s j m.place) other.q other.d other.enable) here
        ∙ ap (λ (o : EmuRegister). load_mark mark o.q o.d o.enable) same
        ∙ ap (λ (o : Option ChipNetId). load_mark mark register.q o register.enable) has_d
        ∙ ap (λ (o : Option ChipNetId). load_mark mark register.q (Some d) o) has_enable

    on_load : (at_chip place : ℕ)
        → IsLoad (on_register c.results.net at_chip place (λ q. load_mark (λ m. net_mark c.design c.results inside s at_chip m.place) q.q q.d q.enable) chip register.q.place)
    on_load at_chip place =
        on_both c.results.net at_chip place chip register.q.place
        (λ q. load_mark (λ m. net_mark c.design c.results inside s at_chip m.place) q.q q.d q.enable)
        (λ q. load_mark (λ m. net_mark c.design c.results inside s at_chip m.place) q.q q.d q.enable)
        (λ o q. IsLoad o) (inl refl)
        (λ other here found same. inr (load_at at_chip here other (is_only place other found same)))

    by_wire : (wire t : ℕ) (net : ChipNetId) (reg : ℕ) (o : Option Wire) → send_fits c.results.net (length (frame_slots c.results frame)) t net reg o ≡ true
        → IsLoad (option_and_then (λ ends. on_register c.results.net ends.to.place reg (λ q. Some (arriving_mark c.design c.results inside s ends wire net)) chip register.q.place) o)
    by_wire wire t net reg None fits = no fits
    by_wire wire t net reg (Some ends) fits =
        on_hold ends.to.place reg (λ q. Some (arriving_mark c.design c.results inside s ends wire net)) (right _ _ (left _ _ fits))

    no_read : (m place b : ℕ) (port : EmuRead) → read_port c.results.net chip m place ≡ Some port → position (is_chip_net register.q.place) port.bits ≡ Some b → ⊥
    no_read m place b port found in_bits =
        let there = read_port_at c chip m place port found in
        let bit = positioned (is_chip_net register.q.place) port.bits b in_bits in
        no_bit (chip_at c.results.net chip) register.q.place one mine
        (bit_at c chip m place b register.q.place there.0 port bit.0 there.1 there.2 bit.1 (number_same _ _ bit.2))

    abbrev read_of : ℕ → ℕ → EmuRead → Mark
    read_of m place port =
        read_mark s (clock_of_read c.design c.results chip m place) (length (writes_of c.design c.results chip m)) chip m (net_marks c.design c.results inside s chip port.address)

    by_bit : (m place : ℕ) (port : EmuRead) → read_port c.results.net chip m place ≡ Some port → (o : Option ℕ) → position (is_chip_net register.q.place) port.bits ≡ o
        → IsLoad (option_map (λ b. read_of m place port) o)
    by_bit m place port found None e = inl refl
    by_bit m place port found (Some b) e = absurd (no_read m place b port found e)

    by_port : (m place : ℕ) (o : Option EmuRead) → read_port c.results.net chip m place ≡ o
        → IsLoad (option_and_then (λ q. option_map (λ b. read_of m place q) (position (is_chip_net register.q.place) q.bits)) o)
    by_port m place None e = inl refl
    by_port m place (Some port) e = by_bit m place port e (position (is_chip_net register.q.place) port.bits) refl

    by_chip : (m place : ℕ) (b : Bool)
        → IsLoad (if b then option_and_then (λ q. option_map (λ b. read_of m place q) (position (is_chip_net register.q.place) q.bits)) (read_port c.results.net chip m place) else None)
    by_chip m place false = inl refl
    by_chip m place true = by_port m place (read_port c.results.net chip m place) refl

    by_action : (t : ℕ) (a : Action) → case_action_fits c frame t a ≡ true → IsLoad (gives a)
    by_action t (action.Input on reg net) fits = on_hold on.place reg.place (λ q. Some only_after) (left _ _ fits)
    by_action t (action.Load on reg) fits = on_load on.place reg.place
    by_action t (action.Send wire net reg) fits = by_wire wire.place t net reg.place (slice_get c.board.wires wire.place) fits
    by_action t (action.Write on mem port) fits = inl refl
    by_action t (action.Read on mem port) fits = by_chip mem.place port (on.place == chip)

    -- ## What a slot gives it

    shown : mark register.q ≡ widened inside (subject c.results chip register.q.place) (s.on chip register.q.place)
    shown =
        on_register_net (chip_at c.results.net chip) register.q.place one mine
        (λ (j : ℕ). widened inside (subject c.results chip j) (s.on chip j))
        (λ (gate : EmuGate) (ms : List Mark). widened inside (subject c.results chip gate.output.place) (gate_mark c.design (subject c.results chip gate.output.place) ms))
        (length (chip_at c.results.net chip).gates)

    unmarked : has_some (s.on chip register.q.place) ≡ false → has_some (mark register.q) ≡ false
    unmarked h = ap has_some (shown ∙ none_wider inside (subject c.results chip register.q.place) (s.on chip register.q.place) h) ∙ h

    module _ (t : ℕ) where
      each_ending : (j : ℕ) (a : Action) → slice_get (ending c.board.wires (frame_slots c.results frame) t) j ≡ Some a → IsLoad (gives a)
      each_ending j a found =
          let e : EndsIn c.board.wires (frame_slots c.results frame) t a = ends_in c.board.wires (frame_slots c.results frame) t j a found in
          let stands : StandsAt (frame_slots c.results frame) e.place e.from = stands_at (frame_slots c.results frame) e.place e.from e.at in
          subst (λ (b : Action). IsLoad (gives b)) (sym e.is) (by_action e.from.slot e.from.action (fit.there e.from.slot stands.place e.from.action stands.at))

      lost : has_some (s.on chip register.q.place) ≡ false
          → has_some ((marks_step c.design c.results c.board.wires inside (frame_slots c.results frame) t s).on chip register.q.place) ≡ false
      lost h =
          go (first_given gives (ending c.board.wires (frame_slots c.results frame) t)) (first_is_it gives loaded (ending c.board.wires (frame_slots c.results frame) t) each_ending)
        where
          go : (o : Option Mark) → IsLoad o → has_some (unwrap_or o (s.on chip register.q.place)) ≡ false
          go o (inl e) = ap (λ (z : Option Mark). has_some (unwrap_or z (s.on chip register.q.place))) e ∙ h
          go o (inr e) =
              ap (λ (z : Option Mark). has_some (unwrap_or z (s.on chip register.q.place))) e
              ∙ and_last ((mark d).after && (mark enable).after) (has_some (mark register.q)) (unmarked h)

      load_given : (j : ℕ) → slice_get (slot_actions c frame t) j ≡ Some (action.Load (record { place = chip }) (record { place = i }))
          → (marks_step c.design c.results c.board.wires inside (frame_slots c.results frame) t s).on chip register.q.place ≡ loaded
      load_given j found =
          let here : Has (ending c.board.wires (frame_slots c.results frame) t) (action.Load (record { place = chip }) (record { place = i })) =
          ends_here c.board.wires (frame_slots c.results frame) t j (action.Load (record { place = chip }) (record { place = i })) found refl in
          ap (λ (z : Option Mark). unwrap_or z (s.on chip register.q.place))
          (it_is_given gives loaded (ending c.board.wires (frame_slots c.results frame) t) each_ending here.place (action.Load (record { place = chip }) (record { place = i })) here.at own)
        where
          own : gives (action.Load (record { place = chip }) (record { place = i })) ≡ Some loaded
          own =
              ap (λ (b : Bool). if b then option_and_then (λ q. if is_chip_net register.q.place q.q then load_of q else None) (slice_get (chip_at c.results.net chip).registers i) else None) (same_number chip chip refl)
              ∙ ap (option_and_then (λ (q : EmuRegister). if is_chip_net register.q.place q.q then load_of q else None)) at
              ∙ ap (λ (b : Bool). if b then load_of register else None) (same_number register.q.place register.q.place refl)
              ∙ load_at chip refl register refl

  -- the marks at the start of a slot
  abbrev marks : ℕ → MarkState
  marks t = marks_at c.design c.results c.board.wires inside (frame_slots c.results frame) t

  abbrev IsUnmarked : ℕ → Type 0
  IsUnmarked t = has_some ((marks t).on chip register.q.place) ≡ false

  not_lost : (t : ℕ) → t < suc (length (frame_slots c.results frame))
      → (net_mark c.design c.results inside (marks (length (frame_slots c.results frame))) chip register.q.place).after ≡ true
      → IsUnmarked t → ⊥
  not_lost t less ended h =
      let end : ℕ = length (frame_slots c.results frame) in
      let none : IsUnmarked end = from_then_on IsUnmarked t h (λ u deep. lost (marks u) u deep) end less in
      after_some ((marks end).on chip register.q.place) none
      (sym
      (ap (λ (m : Mark). m.after)
      (shown (marks end) ∙ none_wider inside (subject c.results chip register.q.place) ((marks end).on chip register.q.place) none))
      ∙ ended)

  -- a load of a register that has "after" at the end of the frame finds "after" at its D and its enable
  pub load_marks : (t j : ℕ)
      → (net_mark c.design c.results inside (marks (length (frame_slots c.results frame))) chip register.q.place).after ≡ true
      → slice_get (slot_actions c frame t) j ≡ Some (action.Load (record { place = chip }) (record { place = i }))
      → ((net_mark c.design c.results inside (marks t) chip d.place).after ≡ true) × ((net_mark c.design c.results inside (marks t) chip enable.place).after ≡ true)
  load_marks t j ended found = go (has_some (loaded (marks t))) refl
    where
      go : (b : Bool) → has_some (loaded (marks t)) ≡ b
          → ((net_mark c.design c.results inside (marks t) chip d.place).after ≡ true) × ((net_mark c.design c.results inside (marks t) chip enable.place).after ≡ true)
      go true e = (left _ _ (left _ _ e), right _ _ (left _ _ e))
      go false e =
          let low : t < length (frame_slots c.results frame) = in_slots (frame_slots c.results frame) t j (action.Load (record { place = chip }) (record { place = i })) found in
          let next : suc t < suc (length (frame_slots c.results frame)) = omega arith in
          absurd (not_lost (suc t) next ended (ap has_some (load_given (marks t) t j found) ∙ e))
