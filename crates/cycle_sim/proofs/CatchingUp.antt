-- Nets that actions give something show what is held there.
use Rattle.std.proofs.Common.{◌≡◌, ◌<◌, ◌+◌, ℕ, Bool, true, false, List, [], ◌∷◌, drop, get_or, length, refl, sym, ap, subst, ◌∙◌, inl, inr, if◌then◌else◌, arith}
use Rattle.std.specs.Prelude.{◌==◌, ◌&&◌, ◌||◌, ◌⊎◌, Option, Some, None, All, slice_get, position, count_by, flat_map, option_map, option_and_then, unwrap_or}
use Rattle.std.specs.List.{list_any}
use Rattle.std.specs.Option.{option_or}
use Rattle.std.proofs.lemmas.List.{drop_more}
use Rattle.std.proofs.lemmas.List.Folds.{list_any_at}
use Rattle.std.proofs.lemmas.List.Quantifiers.{position-Some}
use Rattle.std.proofs.lemmas.Option.{slice_get-get_or}
use Rattle.id_arena.specs.declared.keys.ChipId.{ChipId}
use Rattle.id_arena.specs.declared.keys.ChipNetId.{ChipNetId}
use Rattle.id_arena.specs.declared.keys.MemId.{MemId}
use Rattle.id_arena.specs.declared.keys.NetId.{NetId}
use Rattle.id_arena.specs.declared.keys.RegId.{RegId}
use Rattle.id_arena.specs.declared.keys.WireId.{WireId}
use Rattle.id_arena.specs.declared.wire.Wire.{Wire}
use Rattle.design_core.specs.Operation.{bit_of}
use Rattle.emu_machine.specs.declared.netlist.Chip.{Chip}
use Rattle.emu_machine.specs.declared.netlist.EmuGate.{EmuGate}
use Rattle.emu_machine.specs.declared.netlist.EmuMemory.{EmuMemory}
use Rattle.emu_machine.specs.declared.netlist.EmuRead.{EmuRead}
use Rattle.emu_machine.specs.declared.netlist.EmuRegister.{EmuRegister}
use Rattle.emu_machine.specs.declared.schedule.Action.{Action}
use Rattle.emu_machine.specs.declared.schedule.Action.TheVariants.{Input, Load, Send, Read}
use Rattle.emu_machine.specs.Results.{Results}
use Rattle.emu_machine.specs.Netlist.{chip_at, is_chip_net, net_drivers, read_nets}
use Rattle.emu_machine.specs.State.{State, action_value, arriving, first_given, loaded_value, net_number, net_value, on_register, read_bit, read_port}
use Rattle.facts.proofs.Counting.{counted, not_found}
use Rattle.facts.proofs.Lists.{Has, has_under}
use Rattle.facts.proofs.Tests.{no, left, right, number_same, same_number}
use Rattle.cycle_sim.specs.Standing.{ChipStands}
use Rattle.cycle_sim.specs.Values.{cell}
use Rattle.cycle_sim.specs.Passes.{IsFree, ShowHeld, CatchesUp, CatchUp, BitsCatchUp}
use Rattle.cycle_sim.specs.Takes.{HasGiven}
use Rattle.cycle_sim.proofs.Chips.{chip_here, chip_low}
use Rattle.cycle_sim.proofs.Ports.{reader, read_low, read_of}
use Rattle.cycle_sim.proofs.Taking.{on_is, put_at, put_some, split_at}

-- ## Nets that no gate drives

abbrev bits_of : EmuMemory → List ChipNetId
bits_of memory = flat_map (λ (port : EmuRead). port.bits) memory.reads

module _ (r : Results) (chips : (c : ℕ) (chip : Chip) → slice_get r.net c ≡ Some chip → ChipStands chip) where
  -- the Q of a register
  pub free_q : (c k : ℕ) (register : EmuRegister) → slice_get (chip_at r.net c).registers k ≡ Some register → IsFree r c register.q.place
  free_q c k register at =
      let chip : Chip = chip_at r.net c in
      let stands : ChipStands (chip_at r.net c) = chips c (chip_at r.net c) (chip_here r.net c (chip_low r c k register at)) in
      let low : register.q.place < (chip_at r.net c).nets = (stands.registers k register at).q in
      let one : net_drivers (chip_at r.net c) register.q.place ≡ 1 = stands.drivers register.q.place low in
      let some : 0 < count_by (λ (g : EmuRegister). is_chip_net register.q.place g.q) (chip_at r.net c).registers =
      counted (λ (g : EmuRegister). is_chip_net register.q.place g.q) (chip_at r.net c).registers k register at (same_number register.q.place register.q.place refl) in
      record {
        low = low;
        free = not_found (λ (g : EmuGate). is_chip_net register.q.place g.output) (chip_at r.net c).gates (omega arith);
      }

  -- the bits of a read port
  pub free_bits : (c m k : ℕ) (port : EmuRead) → read_port r.net c m k ≡ Some port → All (λ (n : ChipNetId). IsFree r c n.place) port.bits
  free_bits c m k port at j d within =
      let net : ChipNetId = get_or port.bits j d in
      let at_net : slice_get port.bits j ≡ Some (get_or port.bits j d) = slice_get-get_or port.bits j d within in
      let memory = reader r chips c m k port at in
      let stands : ChipStands (chip_at r.net c) = chips c (chip_at r.net c) (chip_here r.net c (read_low r chips c m k port at)) in
      let low : (get_or port.bits j d).place < (chip_at r.net c).nets = (read_of r chips c m k port at).bits j (get_or port.bits j d) at_net in
      let one : net_drivers (chip_at r.net c) (get_or port.bits j d).place ≡ 1 = stands.drivers (get_or port.bits j d).place low in
      let listed : Has (read_nets (chip_at r.net c)) (get_or port.bits j d) =
      has_under bits_of (chip_at r.net c).memories (get_or port.bits j d)
      (record {
        place = m;
        item = memory.0;
        at = memory.1;
        has = has_under (λ (port : EmuRead). port.bits) memory.0.reads (get_or port.bits j d)
            (record { place = k; item = port; at = memory.2; has = record { place = j; at = at_net } });
      }) in
      let some : 0 < count_by (is_chip_net (get_or port.bits j d).place) (read_nets (chip_at r.net c)) =
      counted (is_chip_net (get_or port.bits j d).place) (read_nets (chip_at r.net c)) listed.place (get_or port.bits j d) listed.at (same_number _ _ refl) in
      record {
        low = low;
        free = not_found (λ (g : EmuGate). is_chip_net (get_or port.bits j d).place g.output) (chip_at r.net c).gates (omega arith);
      }

-- ## One net

-- where no element passes a test, none is found by it
no_position : {X : Type 0} (p : X → Bool) (xs : List X) (d : X) → list_any p xs ≡ false → position p xs ≡ None
no_position p xs d none = go (position p xs) refl
  where
    go : (o : Option ℕ) → position p xs ≡ o → o ≡ None
    go None e = refl
    go (Some i) e =
        let h = position-Some p xs i d e in
        no (sym none ∙ list_any_at p xs i d h.0 h.1)

-- where not both tests pass, nothing is given
none_given : (a b : Bool) (o : Option Bool) → (a && b) ≡ false → (if a then (if b then o else None) else None) ≡ None
none_given true true o e = no (sym e)
none_given true false o e = refl
none_given false b o e = refl

one_or : (a b : Bool) (v x : Bool) → unwrap_or (if a then (if b then Some v else None) else None) x ≡ (if a && b then v else x)
one_or true true v x = refl
one_or true false v x = refl
one_or false b v x = refl

put_shows : (before : List (List Bool)) (chip q : ℕ) (value : Bool) → chip < length before → q < length (get_or before chip [])
    → (c n : ℕ) → cell (put_at before chip q value) c n ≡ (if (chip == c) && (q == n) then value else cell before c n)
put_shows before chip q value low_c low_q c n =
    put_some before chip q value low_c low_q c n ∙ one_or (chip == c) (q == n) value (cell before c n)

-- where both tests pass, the net is the one at hand
here_held : (held : List (List Bool)) (chip q c n : ℕ) → ((chip == c) && (q == n)) ≡ true → cell held chip q ≡ cell held c n
here_held held chip q c n e =
    ap (λ (k : ℕ). cell held k q) (number_same chip c (left (chip == c) (q == n) e))
    ∙ ap (λ (k : ℕ). cell held c k) (number_same q n (right (chip == c) (q == n) e))

module _ (r : Results) (wires : List Wire) (held before after : List (List Bool)) where
  -- the Q of a register shows what is held there, after an action that gives it something
  pub q_catches : (chip number : ℕ) (register : EmuRegister) → slice_get (chip_at r.net chip).registers number ≡ Some register
      → chip < length before → register.q.place < length (get_or before chip [])
      → after ≡ put_at before chip register.q.place (cell held chip register.q.place)
      → (action : Action) (gives : State → EmuRegister → Option Bool)
      → ((x : State) (c n : ℕ) → action_value r.net wires x action c n ≡ on_register r.net chip number (gives x) c n)
      → CatchesUp r wires held action before after
  q_catches chip number register at low_c low_q put action gives is c n = go ((chip == c) && (register.q.place == n)) refl
    where
      shows : cell after c n ≡ (if (chip == c) && (register.q.place == n) then cell held chip register.q.place else cell before c n)
      shows = ap (λ rows. cell rows c n) put ∙ put_shows before chip register.q.place (cell held chip register.q.place) low_c low_q c n

      go : (b : Bool) → ((chip == c) && (register.q.place == n)) ≡ b
          → (cell after c n ≡ cell held c n) ⊎ ((cell after c n ≡ cell before c n) × ((x : State) → action_value r.net wires x action c n ≡ None))
      go true e =
          inl (shows ∙ ap (λ b. if b then cell held chip register.q.place else cell before c n) e ∙ here_held held chip register.q.place c n e)
      go false e =
          inr (
            shows ∙ ap (λ b. if b then cell held chip register.q.place else cell before c n) e,
            λ x.
                is x c n
                ∙ on_is r wires held [] [] [] chip number register at (gives x) c n
                ∙ none_given (chip == c) (register.q.place == n) (gives x register) e,
          )

  pub input_catches : (chip : ChipId) (number : RegId) (net : NetId) (register : EmuRegister) → slice_get (chip_at r.net chip.place).registers number.place ≡ Some register
      → chip.place < length before → register.q.place < length (get_or before chip.place [])
      → after ≡ put_at before chip.place register.q.place (cell held chip.place register.q.place)
      → (action : Action) → action ≡ Input chip number net → CatchesUp r wires held action before after
  input_catches chip number net register at low_c low_q put action is =
      subst (λ a. CatchesUp r wires held a before after) (sym is)
      (q_catches chip.place number.place register at low_c low_q put (Input chip number net) (λ x one. Some (x.outside net.place)) (λ x c n. refl))

  pub load_catches : (chip : ChipId) (number : RegId) (register : EmuRegister) → slice_get (chip_at r.net chip.place).registers number.place ≡ Some register
      → chip.place < length before → register.q.place < length (get_or before chip.place [])
      → after ≡ put_at before chip.place register.q.place (cell held chip.place register.q.place)
      → (action : Action) → action ≡ Load chip number → CatchesUp r wires held action before after
  load_catches chip number register at low_c low_q put action is =
      subst (λ a. CatchesUp r wires held a before after) (sym is)
      (q_catches chip.place number.place register at low_c low_q put (Load chip number)
      (λ x one. loaded_value (λ m. net_value r.net x chip.place m.place) one.d one.enable) (λ x c n. refl))

  pub send_catches : (wire : WireId) (net : ChipNetId) (number : RegId) (ends : Wire) → slice_get wires wire.place ≡ Some ends
      → (register : EmuRegister) → slice_get (chip_at r.net ends.to.place).registers number.place ≡ Some register
      → ends.to.place < length before → register.q.place < length (get_or before ends.to.place [])
      → after ≡ put_at before ends.to.place register.q.place (cell held ends.to.place register.q.place)
      → (action : Action) → action ≡ Send wire net number → CatchesUp r wires held action before after
  send_catches wire net number ends here register at low_c low_q put action is =
      subst (λ a. CatchesUp r wires held a before after) (sym is)
      (q_catches ends.to.place number.place register at low_c low_q put (Send wire net number)
      (λ x one. Some (arriving r.net x ends wire.place net))
      (λ x c n. ap (λ o. option_and_then (λ (e : Wire). on_register r.net e.to.place number.place (λ one. Some (arriving r.net x e wire.place net)) c n) o) here))

  -- the bits of a read port likewise
  pub read_catches : (chip : ChipId) (mem : MemId) (number : ℕ) (port : EmuRead) → read_port r.net chip.place mem.place number ≡ Some port
      → BitsCatchUp chip.place port.bits held before after
      → (action : Action) → action ≡ Read chip mem number → CatchesUp r wires held action before after
  read_catches chip mem number port at shows action is =
      subst (λ a. CatchesUp r wires held a before after) (sym is)
      (λ c n. go c n ((chip.place == c) && list_any (is_chip_net n) port.bits) refl)
    where
      none : (c n : ℕ) (x : State) → ((chip.place == c) && list_any (is_chip_net n) port.bits) ≡ false
          → (b : Bool) → (chip.place == c) ≡ b
          → action_value r.net wires x (Read chip mem number) c n ≡ None
      none c n x e false other = ap (λ b. if b then option_and_then (λ one. read_bit r.net x c mem.place one n) (read_port r.net c mem.place number) else None) other
      none c n x e true same =
          let no_bit : list_any (is_chip_net n) port.bits ≡ false = ap (λ b. b && list_any (is_chip_net n) port.bits) (sym same) ∙ e in
          let here : read_port r.net c mem.place number ≡ Some port = ap (λ (k : ℕ). read_port r.net k mem.place number) (sym (number_same chip.place c same)) ∙ at in
          ap (λ b. if b then option_and_then (λ one. read_bit r.net x c mem.place one n) (read_port r.net c mem.place number) else None) same
          ∙ ap (λ o. option_and_then (λ one. read_bit r.net x c mem.place one n) o) here
          ∙ ap (option_map (bit_of (x.word c mem.place (net_number r.net x c port.address)))) (no_position (is_chip_net n) port.bits (record { place = 0 }) no_bit)

      go : (c n : ℕ) (b : Bool) → ((chip.place == c) && list_any (is_chip_net n) port.bits) ≡ b
          → (cell after c n ≡ cell held c n) ⊎ ((cell after c n ≡ cell before c n) × ((x : State) → action_value r.net wires x (Read chip mem number) c n ≡ None))
      go c n true e = inl (shows c n ∙ ap (λ b. if b then cell held c n else cell before c n) e)
      go c n false e =
          inr (shows c n ∙ ap (λ b. if b then cell held c n else cell before c n) e, λ x. none c n x e (chip.place == c) refl)

-- ## The bits of a read port, one after the other

-- what is left to show
abbrev pub BitsLeft : ℕ → List ChipNetId → ℕ → List (List Bool) → List (List Bool) → List (List Bool) → Type 0
BitsLeft chip bits k held before now =
    (c n : ℕ)
    → (if (chip == c) && list_any (is_chip_net n) (drop k bits) then cell held c n else cell now c n)
    ≡ (if (chip == c) && list_any (is_chip_net n) bits then cell held c n else cell before c n)

three : (a b t : Bool) (h x : Bool) → (if a && t then h else (if a && b then h else x)) ≡ (if a && (b || t) then h else x)
three true true true h x = refl
three true true false h x = refl
three true false true h x = refl
three true false false h x = refl
three false b t h x = refl

same_if : (b : Bool) (u v x : Bool) → (b ≡ true → u ≡ v) → (if b then u else x) ≡ (if b then v else x)
same_if true u v x same = same refl
same_if false u v x same = refl

both_no : (a : Bool) (h x : Bool) → (if a && false then h else x) ≡ x
both_no true h x = refl
both_no false h x = refl

module _ (chip : ℕ) (bits : List ChipNetId) (held before : List (List Bool)) where
  pub one_bit : (k : ℕ) (bit : ChipNetId) → k < length bits → bit ≡ get_or bits k bit
      → (now after : List (List Bool)) → chip < length now → bit.place < length (get_or now chip [])
      → after ≡ put_at now chip bit.place (cell held chip bit.place)
      → BitsLeft chip bits k held before now → BitsLeft chip bits (k + 1) held before after
  one_bit k bit low is now after low_c low_q put rest c n =
      ap (λ b. if (chip == c) && list_any (is_chip_net n) (drop (k + 1) bits) then cell held c n else b)
      (ap (λ rows. cell rows c n) put
      ∙ put_shows now chip bit.place (cell held chip bit.place) low_c low_q c n
      ∙ same_if ((chip == c) && (bit.place == n)) (cell held chip bit.place) (cell held c n) (cell now c n) (here_held held chip bit.place c n))
      ∙ three (chip == c) (bit.place == n) (list_any (is_chip_net n) (drop (k + 1) bits)) (cell held c n) (cell now c n)
      ∙ ap (λ some. if (chip == c) && list_any (is_chip_net n) some then cell held c n else cell now c n)
      (sym (drop_more bits k bit low ∙ ap (λ b. b ∷ drop (k + 1) bits) (sym is)))
      ∙ rest c n

  pub all_bits : (k : ℕ) → drop k bits ≡ [] → (now : List (List Bool)) → BitsLeft chip bits k held before now → BitsCatchUp chip bits held before now
  all_bits k none now rest c n =
      sym (ap (λ some. if (chip == c) && list_any (is_chip_net n) some then cell held c n else cell now c n) none ∙ both_no (chip == c) (cell held c n) (cell now c n))
      ∙ rest c n

-- ## Several actions

module _ (r : Results) (wires : List Wire) (held : List (List Bool)) where
  pub one_caught : (actions : List Action) (k : ℕ) (left : ℕ) → left ≡ k + 1
      → (action : Action) → slice_get actions k ≡ Some action
      → (before now after : List (List Bool)) → CatchUp r wires held (drop left actions) before now → CatchesUp r wires held action now after
      → CatchUp r wires held (drop k actions) before after
  one_caught actions k left next action at before now after rest one =
      subst (λ (some : List Action). CatchUp r wires held some before after) (sym (split_at actions k left next action at))
      (λ c n. step c n (one c n) (rest c n))
    where
      step : (c n : ℕ)
          → (cell after c n ≡ cell held c n) ⊎ ((cell after c n ≡ cell now c n) × ((x : State) → action_value r.net wires x action c n ≡ None))
          → (cell now c n ≡ cell held c n) ⊎ ((cell now c n ≡ cell before c n) × ((x : State) → first_given (λ a. action_value r.net wires x a c n) (drop left actions) ≡ None))
          → (cell after c n ≡ cell held c n) ⊎ ((cell after c n ≡ cell before c n) × ((x : State) → first_given (λ a. action_value r.net wires x a c n) (action ∷ drop left actions) ≡ None))
      step c n (inl is) others = inl is
      step c n (inr (same, none)) (inl is) = inl (same ∙ is)
      step c n (inr (same, none)) (inr (was, nobody)) =
          inr (
            same ∙ was,
            λ x. ap (λ o. option_or o (first_given (λ a. action_value r.net wires x a c n) (drop left actions))) (none x) ∙ nobody x,
          )

  pub all_caught : (actions : List Action) (left : ℕ) → left ≡ 0 → (before after : List (List Bool))
      → CatchUp r wires held (drop left actions) before after → CatchUp r wires held actions before after
  all_caught actions left none before after h =
      subst (λ (k : ℕ). CatchUp r wires held (drop k actions) before after) none h

-- nets that no gate drives show what is held, after what was taken is shown
pub level_again : (r : Results) (wires : List Wire) (x : State) (ends : List Action) (before after old new : List (List Bool))
    → ShowHeld r before old
    → HasGiven (λ c n. first_given (λ a. action_value r.net wires x a c n) ends) before after
    → CatchUp r wires after ends old new
    → ShowHeld r after new
level_again r wires x ends before after old new level taken up c n low free = go (up c n)
  where
    go : (cell new c n ≡ cell after c n) ⊎ ((cell new c n ≡ cell old c n) × ((x : State) → first_given (λ a. action_value r.net wires x a c n) ends ≡ None))
        → cell new c n ≡ cell after c n
    go (inl is) = is
    go (inr (same, none)) =
        same ∙ level c n low free ∙ sym (taken c n ∙ ap (λ o. unwrap_or o (cell before c n)) (none x))
