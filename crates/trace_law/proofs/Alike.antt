-- Machines that hold the same, and stand before the same inputs, show the same after each event.
use Rattle.std.proofs.Common.{◌≡◌, ◌<◌, ◌≤◌, ◌+◌, ℕ, zero, suc, Bool, true, false, List, [], ◌∷◌, length, map, refl, sym, ap, subst, ◌∙◌, inl, inr, if◌then◌else◌, arith}
use Rattle.std.specs.Prelude.{◌⊎◌, ◌==◌, ◌&&◌, nat_le, Option, Some, None, Contains, slice_get, unwrap_or, option_map}
use Rattle.std.specs.Option.{option_or, option_map_or}
use Rattle.std.proofs.lemmas.Bool.{cases_eq, and_parts}
use Rattle.std.proofs.lemmas.Bool.Decides.{nat_tests}
use Rattle.std.proofs.lemmas.Option.{none-some, same_Some}
use Rattle.id_arena.specs.declared.keys.ChipNetId.{ChipNetId}
use Rattle.id_arena.specs.declared.keys.RegId.{RegId}
use Rattle.id_arena.specs.declared.keys.WireId.{WireId}
use Rattle.id_arena.specs.declared.wire.Wire.{Wire}
use Rattle.design_core.specs.declared.element.Driver.TheVariants as driven
use Rattle.design_core.specs.declared.node.NodeId.{NodeId}
use Rattle.design_core.specs.declared.parts.Parts.{Parts}
use Rattle.design_core.specs.declared.values.Event.{Event}
use Rattle.design_core.specs.declared.values.PortBit.{PortBit}
use Rattle.design_core.specs.Design.{driver, net_count}
use Rattle.design_core.specs.Event.{given}
use Rattle.design_core.specs.Valuation.{Valuation, IsAddress}
use Rattle.history_law.proofs.Naming.{input_is_input_bit, input_bit_is_input}
use Rattle.emu_machine.specs.declared.map.Spot.{Spot}
use Rattle.emu_machine.specs.declared.map.Subject.{Subject}
use Rattle.emu_machine.specs.declared.map.Subject.TheVariants.{Net, Up, Down, Take, Next, TakeWrite, Old, TakeRead}
use Rattle.emu_machine.specs.declared.netlist.Chip.{Chip}
use Rattle.emu_machine.specs.declared.netlist.EmuMemory.{EmuMemory}
use Rattle.emu_machine.specs.declared.place.Place.TheVariants as place
use Rattle.emu_machine.specs.declared.rule.Rule.TheVariants.{A2, A5, A7}
use Rattle.emu_machine.specs.declared.schedule.Action.{Action}
use Rattle.emu_machine.specs.declared.schedule.Action.TheVariants.{Input, Load, Send, Write, Read}
use Rattle.emu_machine.specs.declared.schedule.Slot.{Slot}
use Rattle.emu_machine.specs.Acceptance.{Case, Holds, action_at, case_action_fits, fails_test}
use Rattle.emu_machine.specs.Building.{IsBuilt}
use Rattle.emu_machine.specs.Law.{IsCase}
use Rattle.emu_machine.specs.Mapped.{IsLoaded, IsValueOf, is_kept, subject}
use Rattle.emu_machine.specs.Netlist.{chip_at}
use Rattle.emu_machine.specs.Results.{Results}
use Rattle.emu_machine.specs.State.{State, action_carried, action_value, action_word, actions_of, after_frame, ending, first_given, frame_slots, is_last, net_value, present, run_of, slot_step, slots_taken, state_at, Timed, timed}
use Rattle.marks_law.proofs.FrameActions.{EndsIn, StandsAt, ends_in, stands_at}
use Rattle.marks_law.proofs.Groups.{group_net_is_input}
use Rattle.facts.proofs.Places.{at_contains, contains_at}
use Rattle.facts.proofs.Tests.{left, must, no, number_same, right, same_number}
use Rattle.cycle_sim.specs.Loading.{FreeAreZero, is_source}
use Rattle.cycle_sim.specs.Standing.{CanRun, CanTake, ChipStands}
use Rattle.cycle_sim.proofs.Built.{runnable}
use Rattle.cycle_sim.proofs.Fitting.{can_take}
use Rattle.cycle_sim.proofs.JudgedResults.{judged_can_run}
use Rattle.domain_groups.specs.Traces.{spots_of, trace_of}
use Rattle.trace_law.specs.Traces.{LoadedTraceIsOne}
use Rattle.trace_law.proofs.Given.{AreAlike, ArrivesSame, TakesInput, same_carried, same_given, same_net, same_value, same_word}
use Rattle.trace_law.proofs.Kept.{HasOriginal, original}

-- ## Loading

-- a subject has one value
one_value : (v : Valuation) (o : Option Subject) (a b : Bool) → IsValueOf v o a → IsValueOf v o b → a ≡ b
one_value v (Some (Net n)) a b first second = first ∙ sym second
one_value v (Some (Up n)) a b first second = absurd first
one_value v (Some (Down n)) a b first second = absurd first
one_value v (Some (Take e)) a b first second = absurd first
one_value v (Some (Next e)) a b first second = absurd first
one_value v (Some (TakeWrite m k)) a b first second = absurd first
one_value v (Some (Old m k i)) a b first second = absurd first
one_value v (Some (TakeRead m k)) a b first second = absurd first
one_value v None a b first second = absurd first

-- machines that are loaded from one valuation, with 0 in all that is free, hold the same
loaded_alike : (c : Case) (inside : ℕ → NodeId → Bool) (v : Valuation) (x y : State) → IsCase c → IsBuilt c.results.net → Holds c inside A7
    → IsLoaded c.design c.results v x → FreeAreZero c.results x → IsLoaded c.design c.results v y → FreeAreZero c.results y → AreAlike c.design c.results.net x y
loaded_alike c inside v x y is built fits first zeros second others =
    record {
      held = λ k n source. held k n source (is_kept c.results k n) refl;
      words = λ k m a memory at low.
          let of : HasOriginal c k m memory = original c inside is fits built k m memory at in
          let there : IsAddress c.design of.of a = of.loads.addresses a low in
          first.state.words k m of.of a of.is there ∙ sym (second.state.words k m of.of a of.is there);
      outside = λ n input.
          let low : n < net_count c.design = (input_bit_is_input c.design n is.design (input_is_input_bit c.design n input)).0 in
          first.outside n low input ∙ sym (second.outside n low input);
    }
  where
    held : (k n : ℕ) → is_source (chip_at c.results.net k) n ≡ true → (kept : Bool) → is_kept c.results k n ≡ kept → x.held k n ≡ y.held k n
    held k n source true kept = one_value v (subject c.results k n) (x.held k n) (y.held k n) (first.state.held k n kept) (second.state.held k n kept)
    held k n source false free = zeros k n source free ∙ sym (others k n source free)

-- ## Slots

-- where some action gives something, something is given
some_given : {A : Type 0} (gives : Action → Option A) (actions : List Action) (k : ℕ) (a : Action) (g : A) → slice_get actions k ≡ Some a → gives a ≡ Some g
    → (h : A) × (first_given gives actions ≡ Some h)
some_given gives [] k a g at is = absurd (none-some a at)
some_given gives (b ∷ actions) zero a g at is = (g, ap (λ o. option_or o (first_given gives actions)) (ap gives (same_Some b a at) ∙ is))
some_given {A} gives (b ∷ actions) (suc k) a g at is = go (gives b) refl (some_given gives actions k a g at is)
  where
    go : (o : Option A) → gives b ≡ o → (h : A) × (first_given gives actions ≡ Some h) → (h : A) × (option_or (gives b) (first_given gives actions) ≡ Some h)
    go (Some h) e rest = (h, ap (λ o. option_or o (first_given gives actions)) e)
    go None e rest = (rest.0, ap (λ o. option_or o (first_given gives actions)) e ∙ rest.1)

-- each action of some slots names what is there, and an `input` an input of the design
record SlotsFit (p : Parts) (r : Results) (wires : List Wire) (nets : ℕ) (slots : List Slot) : Type 0 where
  take : (t : ℕ) (a : Action) → Contains (actions_of slots t) a → CanTake r wires nets a
  inputs : (t : ℕ) (a : Action) → Contains (actions_of slots t) a → TakesInput p a

-- At the start of slot `t` two machines are alike, and the wires of what was sent before carry the same.
record RunAlike (p : Parts) (r : Results) (slots : List Slot) (t : ℕ) (x y : State) : Type 0 where
  alike : AreAlike p r.net x y
  carried : (u : ℕ) (wire : WireId) (net : ChipNetId) (register : RegId) → u < t → Contains (actions_of slots u) (Send wire net register) → x.carried wire.place ≡ y.carried wire.place

module _ (p : Parts) (r : Results) (wires : List Wire) (nets : ℕ) (stands : (k : ℕ) (one : Chip) → slice_get r.net k ≡ Some one → ChipStands one) (slots : List Slot) (fit : SlotsFit p r wires nets slots) where
  module _ (t : ℕ) (x y : State) (run : RunAlike p r slots t x y) where
    -- a `send` that ends in the slot and takes more than one has begun before
    begun : (latency u : ℕ) → (nat_le u t && (t + 1 == u + latency)) ≡ true → (latency == 1) ≡ false → u < t
    begun latency u last long = grind (arith, nat_tests)

    arrives_same : (a : Action) (u : ℕ) → Contains (actions_of slots u) a → is_last wires t (timed u a) ≡ true → ArrivesSame wires x y a
    arrives_same (Send wire net register) u here last =
        λ ends at long.
        run.carried u wire net register
        (begun ends.latency u (sym (ap (λ o. nat_le u t && (t + 1 == u + option_map_or (λ (ends : Wire). ends.latency) o 1)) at) ∙ last) long)
        here
    arrives_same (Input chip register net) u here last = tt
    arrives_same (Load chip register) u here last = tt
    arrives_same (Write chip mem port) u here last = tt
    arrives_same (Read chip mem port) u here last = tt

    ending_same : (a : Action) → Contains (ending wires slots t) a → (c n : ℕ) → action_value r.net wires x a c n ≡ action_value r.net wires y a c n
    ending_same a here c n =
        subst (λ (b : Action). action_value r.net wires x b c n ≡ action_value r.net wires y b c n) (sym ends.is)
        (same_value p r stands x y run.alike wires nets ends.from.action
        (fit.take ends.from.slot ends.from.action stood) (fit.inputs ends.from.slot ends.from.action stood)
        (arrives_same ends.from.action ends.from.slot stood ends.last) c n)
      where
        ends : EndsIn wires slots t a
        ends = let at = at_contains (ending wires slots t) a here in ends_in wires slots t at.0 a at.1

        stood : Contains (actions_of slots ends.from.slot) ends.from.action
        stood =
            let at : StandsAt slots ends.place ends.from = stands_at slots ends.place ends.from ends.at in
            contains_at (actions_of slots ends.from.slot) at.place ends.from.action at.at

    carried_given : (w : ℕ)
        → first_given (λ a. action_carried r.net wires x a w) (actions_of slots t) ≡ first_given (λ a. action_carried r.net wires y a w) (actions_of slots t)
    carried_given w =
        same_given (λ a. action_carried r.net wires x a w) (λ a. action_carried r.net wires y a w) (actions_of slots t)
        (λ a here. same_carried p r stands x y run.alike wires nets a (fit.take t a here) w)

    -- what is sent in the slot is carried after it
    sent_now : (wire : WireId) (net : ChipNetId) (register : RegId) → Contains (actions_of slots t) (Send wire net register)
        → (slot_step r.net wires slots t x).carried wire.place ≡ (slot_step r.net wires slots t y).carried wire.place
    sent_now wire net register here =
        ap (λ o. unwrap_or o (x.carried wire.place)) (carried_given wire.place ∙ some.1)
        ∙ sym (ap (λ o. unwrap_or o (y.carried wire.place)) some.1)
      where
        can : CanTake r wires nets (Send wire net register)
        can = fit.take t (Send wire net register) here

        gives : action_carried r.net wires y (Send wire net register) wire.place ≡ Some (net_value r.net y can.0.from.place net.place)
        gives =
            ap (λ b. if b then option_map (λ (ends : Wire). net_value r.net y ends.from.place net.place) (slice_get wires wire.place) else None) (same_number wire.place wire.place refl)
            ∙ ap (option_map (λ (ends : Wire). net_value r.net y ends.from.place net.place)) can.1

        some : (h : Bool) × (first_given (λ a. action_carried r.net wires y a wire.place) (actions_of slots t) ≡ Some h)
        some =
            let at = at_contains (actions_of slots t) (Send wire net register) here in
            some_given (λ a. action_carried r.net wires y a wire.place) (actions_of slots t) at.0 (Send wire net register) _ at.1 gives

    sent : (u : ℕ) (wire : WireId) (net : ChipNetId) (register : RegId) → u < suc t → Contains (actions_of slots u) (Send wire net register)
        → (slot_step r.net wires slots t x).carried wire.place ≡ (slot_step r.net wires slots t y).carried wire.place
    sent u wire net register early here = go (cases_eq u t)
      where
        go : (u ≡ t) ⊎ (u ≡ t → ⊥) → (slot_step r.net wires slots t x).carried wire.place ≡ (slot_step r.net wires slots t y).carried wire.place
        go (inl same) = sent_now wire net register (subst (λ (s : ℕ). Contains (actions_of slots s) (Send wire net register)) same here)
        go (inr other) =
            let before : u < t = omega (arith, early, other) in
            ap (λ o. unwrap_or o (x.carried wire.place)) (carried_given wire.place)
            ∙ ap (unwrap_or (first_given (λ a. action_carried r.net wires y a wire.place) (actions_of slots t))) (run.carried u wire net register before here)

    slot_alike : RunAlike p r slots (suc t) (slot_step r.net wires slots t x) (slot_step r.net wires slots t y)
    slot_alike =
        record {
          alike = record {
            held = λ c n source.
                ap (λ o. unwrap_or o (x.held c n))
                (same_given (λ a. action_value r.net wires x a c n) (λ a. action_value r.net wires y a c n) (ending wires slots t) (λ a here. ending_same a here c n))
                ∙ ap (unwrap_or (first_given (λ a. action_value r.net wires y a c n) (ending wires slots t))) (run.alike.held c n source);
            words = λ c m a memory at low.
                ap (λ o. unwrap_or o (x.word c m a))
                (same_given (λ action. action_word r.net x action c m a) (λ action. action_word r.net y action c m a) (actions_of slots t)
                (λ action here. same_word p r stands x y run.alike wires nets action c m a))
                ∙ ap (unwrap_or (first_given (λ action. action_word r.net y action c m a) (actions_of slots t))) (run.alike.words c m a memory at low);
            outside = run.alike.outside;
          };
          carried = sent;
        }

  slots_alike : (x y : State) → AreAlike p r.net x y → (t : ℕ) → RunAlike p r slots t (state_at r.net wires slots x t) (state_at r.net wires slots y t)
  slots_alike x y alike zero = record { alike = alike; carried = λ u wire net register early here. absurd (omega (arith, early)) }
  slots_alike x y alike (suc t) =
      slot_alike t (state_at r.net wires slots x t) (state_at r.net wires slots y t) (slots_alike x y alike t)

-- the values of an event leave them alike
present_alike : (p : Parts) (chips : List Chip) (event : List PortBit) (x y : State) → AreAlike p chips x y → AreAlike p chips (present event x) (present event y)
present_alike p chips event x y alike =
    record { held = alike.held; words = alike.words; outside = λ n input. ap (unwrap_or (given event n)) (alike.outside n input) }

-- ## Frames and runs

module _ (c : Case) (inside : ℕ → NodeId → Bool) (is : IsCase c) (built : IsBuilt c.results.net) (no_cycle : Holds c inside A2) (holds : Holds c inside A5) where
  -- the machine can run the results
  runs : CanRun c.results c.board.wires (net_count c.design)
  runs = judged_can_run c inside is.design is.groups no_cycle holds

  -- each chip stands
  stands : (k : ℕ) (one : Chip) → slice_get c.results.net k ≡ Some one → ChipStands one
  stands = (runnable c.results c.board.wires (net_count c.design) built runs).chips

  -- an `input` of a frame is one of a net of the frame's group
  takes_input : (k t : ℕ) (a : Action) → case_action_fits c k t a ≡ true → TakesInput c.design a
  takes_input k t (Input chip register net) fits = group_net_is_input c k net.place is (and_parts _ _ fits).1
  takes_input k t (Load chip register) fits = tt
  takes_input k t (Send wire net register) fits = tt
  takes_input k t (Write chip mem port) fits = tt
  takes_input k t (Read chip mem port) fits = tt

  frame_fit : (k : ℕ) → SlotsFit c.design c.results c.board.wires (net_count c.design) (frame_slots c.results k)
  frame_fit k =
      record {
        take = λ t a here. can_take c.results c.board.wires (net_count c.design) (length (frame_slots c.results k)) t a (runs.actions k t a here);
        inputs = λ t a here.
            let at : (j : ℕ) × (action_at c k t j ≡ Some a) = at_contains (actions_of (frame_slots c.results k) t) a here in
            takes_input k t a
            (must (case_action_fits c k t a) (subst (λ o. fails_test (case_action_fits c k t) o → ⊥) at.1 (holds (place.Action k t at.0))));
      }

  frame_alike : (event : Event) (x y : State) → AreAlike c.design c.results.net x y → AreAlike c.design c.results.net (after_frame c.results c.board.wires event x) (after_frame c.results c.board.wires event y)
  frame_alike event x y alike =
      (slots_alike c.design c.results c.board.wires (net_count c.design) stands (frame_slots c.results event.group.place) (frame_fit event.group.place)
      (present event.values x) (present event.values y) (present_alike c.design c.results.net event.values x y alike) (length (frame_slots c.results event.group.place))).alike

  same_spots : (x y : State) → AreAlike c.design c.results.net x y → (spots : List Spot)
      → ((k : ℕ) (spot : Spot) → slice_get spots k ≡ Some spot → spot.net.place < (chip_at c.results.net spot.chip.place).nets)
      → map (λ spot. net_value c.results.net x spot.chip.place spot.net.place) spots ≡ map (λ spot. net_value c.results.net y spot.chip.place spot.net.place) spots
  same_spots x y alike [] there = refl
  same_spots x y alike (spot ∷ spots) there =
      ap (λ b. b ∷ map (λ one. net_value c.results.net x one.chip.place one.net.place) spots)
      (same_net c.design c.results stands x y alike spot.chip.place spot.net.place (there 0 spot refl))
      ∙ ap (λ bits. net_value c.results.net y spot.chip.place spot.net.place ∷ bits) (same_spots x y alike spots (λ k. there (suc k)))

  same_shown : (x y : State) → AreAlike c.design c.results.net x y → spots_of c.results x ≡ spots_of c.results y
  same_shown x y alike = same_spots x y alike c.results.map.outputs is.mapped.outputs

  all_shown : (events : List Event) (x y : State) → AreAlike c.design c.results.net x y
      → map (spots_of c.results) (run_of c.results c.board.wires x events) ≡ map (spots_of c.results) (run_of c.results c.board.wires y events)
  all_shown [] x y alike = refl
  all_shown (event ∷ events) x y alike =
      let next-x : State = after_frame c.results c.board.wires event x in
      let next-y : State = after_frame c.results c.board.wires event y in
      let later : AreAlike c.design c.results.net next-x next-y = frame_alike event x y alike in
      ap (λ bits. bits ∷ map (spots_of c.results) (run_of c.results c.board.wires next-x events)) (same_shown next-x next-y later)
      ∙ ap (λ rest. spots_of c.results next-y ∷ rest) (all_shown events next-x next-y later)

pub loaded_trace_is_one : LoadedTraceIsOne
loaded_trace_is_one c inside events v x y is built no_cycle holds fits first zeros second others =
    ap (trace_of c.design.outputs) (all_shown c inside is built no_cycle holds events x y (loaded_alike c inside v x y is built fits first zeros second others))
