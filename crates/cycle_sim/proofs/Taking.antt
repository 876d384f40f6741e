-- What actions give to registers.
use Rattle.std.proofs.Common.{◌≡◌, ◌<◌, ◌+◌, ℕ, Bool, true, false, List, [], ◌∷◌, drop, set, get_or, length, refl, sym, ap, subst, ◌∙◌, inl, inr, if◌then◌else◌}
use Rattle.std.specs.Prelude.{◌==◌, ◌&&◌, ◌⊎◌, not, Option, Some, None, All, slice_get, unwrap_or, option_map, option_and_then, position, IfSome}
use Rattle.std.specs.List.{list_all}
use Rattle.std.specs.Option.{option_or, option_map_or}
use Rattle.std.proofs.lemmas.Bool.{cases_eq}
use Rattle.std.proofs.lemmas.List.Elements.{All-head, All-tail}
use Rattle.std.proofs.lemmas.List.{length-set, get_or-set_same, get_or-set_other, drop_more}
use Rattle.std.proofs.lemmas.Option.{same_Some, slice_get_within, get_or_from_slice_get}
use Rattle.id_arena.specs.declared.keys.ChipNetId.{ChipNetId}
use Rattle.id_arena.specs.declared.keys.ChipId.{ChipId}
use Rattle.id_arena.specs.declared.keys.MemId.{MemId}
use Rattle.id_arena.specs.declared.keys.NetId.{NetId}
use Rattle.id_arena.specs.declared.keys.RegId.{RegId}
use Rattle.id_arena.specs.declared.keys.WireId.{WireId}
use Rattle.id_arena.specs.declared.wire.Wire.{Wire}
use Rattle.design_core.specs.Operation.{bit_of, number}
use Rattle.emu_machine.specs.declared.netlist.EmuRead.{EmuRead}
use Rattle.emu_machine.specs.declared.netlist.EmuRegister.{EmuRegister}
use Rattle.emu_machine.specs.declared.schedule.Action.{Action}
use Rattle.emu_machine.specs.declared.schedule.Action.TheVariants.{Input, Load, Send, Read}
use Rattle.emu_machine.specs.Results.{Results}
use Rattle.emu_machine.specs.Netlist.{chip_at, is_chip_net}
use Rattle.emu_machine.specs.State.{State, net_value, net_values, net_number, read_port, read_bit, on_register, loaded_value, arriving, action_value, first_given}
use Rattle.facts.proofs.Tests.{same_number}
use Rattle.cycle_sim.specs.Standing.{IsRunnable, CanTake, IsThere, RegisterStands}
use Rattle.cycle_sim.specs.Values.{cell, value_in, values_in}
use Rattle.cycle_sim.specs.Tables.{Tables, tables, word_in, state_of, HaveSizes, AllShown}
use Rattle.cycle_sim.specs.Takes.{HasGiven, AreServed, HasTakenOne, HasTaken, ShowOnChip, is_direct, takes_no_net}
use Rattle.cycle_sim.proofs.Counting.{is_other}
use Rattle.cycle_sim.proofs.Chips.{net_is, chip_low, net_chip_low, low_in, register_stands, q_in}

-- ## One value is put

-- a value for one net of one chip, if there is one
abbrev pub given_at : ℕ → ℕ → Option Bool → ℕ → ℕ → Option Bool
given_at chip q o c n = if chip == c then (if q == n then o else None) else None

abbrev pub put_at : List (List Bool) → ℕ → ℕ → Bool → List (List Bool)
put_at held chip q value = set held chip (set (get_or held chip []) q value)

nothing : (a b : Bool) (x : Bool) → x ≡ unwrap_or (if a then (if b then None else None) else None) x
nothing true true x = refl
nothing true false x = refl
nothing false b x = refl

put_none : (held : List (List Bool)) (chip q : ℕ) → HasGiven (given_at chip q None) held held
put_none held chip q c n = nothing (chip == c) (q == n) (cell held c n)

module _ (held : List (List Bool)) (chip q : ℕ) (value : Bool) (low_c : chip < length held) (low_q : q < length (get_or held chip [])) where
  abbrev row : List Bool
  row = set (get_or held chip []) q value

  in_chip : (n : ℕ) → (n ≡ q) ⊎ (n ≡ q → ⊥) → get_or row n false ≡ unwrap_or (if q == n then Some value else None) (cell held chip n)
  in_chip n (inl same) =
      ap (λ (k : ℕ). get_or row k false) same
      ∙ get_or-set_same (get_or held chip []) q value false low_q
      ∙ sym (ap (λ b. unwrap_or (if b then Some value else None) (cell held chip n)) (same_number q n (sym same)))
  in_chip n (inr other) =
      get_or-set_other (get_or held chip []) q n value false other
      ∙ sym (ap (λ b. unwrap_or (if b then Some value else None) (cell held chip n)) (is_other q n (λ e. other (sym e))))

  put_in : (c n : ℕ) → (c ≡ chip) ⊎ (c ≡ chip → ⊥) → cell (put_at held chip q value) c n ≡ unwrap_or (given_at chip q (Some value) c n) (cell held c n)
  put_in c n (inl same) =
      ap (λ (k : ℕ). cell (put_at held chip q value) k n) same
      ∙ ap (λ r. get_or r n false) (get_or-set_same held chip row [] low_c)
      ∙ in_chip n (cases_eq n q)
      ∙ ap (λ (k : ℕ). unwrap_or (if q == n then Some value else None) (cell held k n)) (sym same)
      ∙ sym (ap (λ b. unwrap_or (if b then (if q == n then Some value else None) else None) (cell held c n)) (same_number chip c (sym same)))
  put_in c n (inr other) =
      ap (λ r. get_or r n false) (get_or-set_other held chip c row [] other)
      ∙ sym (ap (λ b. unwrap_or (if b then (if q == n then Some value else None) else None) (cell held c n)) (is_other chip c (λ e. other (sym e))))

  pub put_some : HasGiven (given_at chip q (Some value)) held (put_at held chip q value)
  put_some c n = put_in c n (cases_eq c chip)

  pub put_sizes : (r : Results) → HaveSizes r held → HaveSizes r (put_at held chip q value)
  put_sizes r h =
      record {
        count = length-set held chip row ∙ h.count;
        sizes = λ c one at. go c (cases_eq c chip) ∙ h.sizes c one at;
      }
    where
      go : (c : ℕ) → (c ≡ chip) ⊎ (c ≡ chip → ⊥) → length (get_or (put_at held chip q value) c []) ≡ length (get_or held c [])
      go c (inl same) =
          ap (λ (k : ℕ). length (get_or (put_at held chip q value) k [])) same
          ∙ ap length (get_or-set_same held chip row [] low_c)
          ∙ length-set (get_or held chip []) q value
          ∙ ap (λ (k : ℕ). length (get_or held k [])) (sym same)
      go c (inr other) = ap length (get_or-set_other held chip c row [] other)

-- ## One action

-- the state in which registers hold these values
abbrev pub started : List (List Bool) → List (List (List ℕ)) → List Bool → List Bool → State
started start words outside carried = state_of (tables start words outside carried)

module _ (r : Results) (wires : List Wire) (shown : List (List Bool)) (words : List (List (List ℕ))) (outside carried : List Bool) (chip number : ℕ) (register : EmuRegister) (at : slice_get (chip_at r.net chip).registers number ≡ Some register) where
  abbrev reading : (EmuRegister → Option Bool) → ℕ → Option EmuRegister → Option Bool
  reading gives n o = option_and_then (λ one. if is_chip_net n one.q then gives one else None) o

  pub on_is : (gives : EmuRegister → Option Bool) (c n : ℕ) → on_register r.net chip number gives c n ≡ given_at chip register.q.place (gives register) c n
  on_is gives c n = go (cases_eq c chip)
    where
      go : (c ≡ chip) ⊎ (c ≡ chip → ⊥) → on_register r.net chip number gives c n ≡ given_at chip register.q.place (gives register) c n
      go (inl same) =
          ap (λ (k : ℕ). on_register r.net chip number gives k n) same
          ∙ ap (λ o. if chip == chip then reading gives n o else None) at
          ∙ ap (λ (k : ℕ). given_at chip register.q.place (gives register) k n) (sym same)
      go (inr other) =
          ap (λ b. if b then reading gives n (slice_get (chip_at r.net c).registers number) else None) (is_other chip c (λ e. other (sym e)))
          ∙ sym (ap (λ b. if b then (if register.q.place == n then gives register else None) else None) (is_other chip c (λ e. other (sym e))))

  -- a value is put, as something gives it to the register
  given_put : (gives : EmuRegister → Option Bool) (held : List (List Bool)) → chip < length held → register.q.place < length (get_or held chip [])
      → (value : Bool) → Some value ≡ gives register → HasGiven (on_register r.net chip number gives) held (put_at held chip register.q.place value)
  given_put gives held low_c low_q value is c n =
      put_some held chip register.q.place value low_c low_q c n
      ∙ ap (λ o. unwrap_or (given_at chip register.q.place o c n) (cell held c n)) is
      ∙ ap (λ o. unwrap_or o (cell held c n)) (sym (on_is gives c n))

  -- and nothing is put, where it gives none
  none_put : (gives : EmuRegister → Option Bool) (held : List (List Bool)) → None ≡ gives register → HasGiven (on_register r.net chip number gives) held held
  none_put gives held is c n =
      put_none held chip register.q.place c n
      ∙ ap (λ o. unwrap_or (given_at chip register.q.place o c n) (cell held c n)) is
      ∙ ap (λ o. unwrap_or o (cell held c n)) (sym (on_is gives c n))

  loaded_same : (f g : ChipNetId → Bool) (nets : ℕ) (d enable : Option ChipNetId) → IfSome d (IsThere nets) → IfSome enable (IsThere nets)
      → ((m : ChipNetId) → m.place < nets → f m ≡ g m) → loaded_value f d enable ≡ loaded_value g d enable
  loaded_same f g nets None enable in_d in_e same = refl
  loaded_same f g nets (Some d) None in_d in_e same = ap Some (same d in_d)
  loaded_same f g nets (Some d) (Some e) in_d in_e same =
      ap (λ b. if b then Some (f d) else None) (same e in_e) ∙ ap (λ b. if g e then Some b else None) (same d in_d)

  -- what a load reads is what the nets show
  reads : chip < length r.net → RegisterStands (chip_at r.net chip).nets register → (start : List (List Bool)) → AllShown r start shown
      → loaded_value (value_in (get_or shown chip [])) register.d register.enable
      ≡ loaded_value (λ m. net_value r.net (started start words outside carried) chip m.place) register.d register.enable
  reads low stands start all =
      loaded_same (value_in (get_or shown chip [])) (λ m. net_value r.net (started start words outside carried) chip m.place)
      (chip_at r.net chip).nets register.d register.enable stands.d stands.enable
      (λ m there. net_is r (tables start words outside carried) shown all chip m.place low there)

-- the same, of an action by its form
module _ (r : Results) (wires : List Wire) (nets : ℕ) (words : List (List (List ℕ))) (outside carried : List Bool) (runs : IsRunnable r wires nets) (shown held : List (List Bool)) (sizes : HaveSizes r held) where
  module _ (chip : ChipId) (number : RegId) (register : EmuRegister) (at : slice_get (chip_at r.net chip.place).registers number.place ≡ Some register) where
    low_chip : chip.place < length held
    low_chip = low_in r chip.place number.place register at held sizes

    low_net : register.q.place < length (get_or held chip.place [])
    low_net = q_in r chip.place number.place register at wires nets runs held sizes

    pub input_done : (net : NetId) (action : Action) → action ≡ Input chip number net
        → (value : Bool) → value ≡ get_or outside net.place false
        → (after : List (List Bool)) → after ≡ put_at held chip.place register.q.place value
        → HasTakenOne r wires shown words outside carried action held after
    input_done net action is value reads_it after put =
        subst (λ a. HasTakenOne r wires shown words outside carried a held after) (sym is)
        (subst (λ h. HasTakenOne r wires shown words outside carried (Input chip number net) held h) (sym put)
        (λ start all. given_put r wires shown words outside carried chip.place number.place register at (λ one. Some (get_or outside net.place false)) held low_chip low_net value (ap Some reads_it)))

    module _ (table : List Bool) (table_is : table ≡ get_or shown chip.place []) (action : Action) (is : action ≡ Load chip number) where
      loads : (start : List (List Bool)) → AllShown r start shown → (o : Option Bool) → o ≡ loaded_value (value_in table) register.d register.enable
          → o ≡ loaded_value (λ m. net_value r.net (started start words outside carried) chip.place m.place) register.d register.enable
      loads start all o gives =
          gives
          ∙ ap (λ t. loaded_value (value_in t) register.d register.enable) table_is
          ∙ reads r wires shown words outside carried chip.place number.place register at (chip_low r chip.place number.place register at)
          (register_stands r chip.place number.place register at wires nets runs) start all

      pub load_left : None ≡ loaded_value (value_in table) register.d register.enable → HasTakenOne r wires shown words outside carried action held held
      load_left gives =
          subst (λ a. HasTakenOne r wires shown words outside carried a held held) (sym is)
          (λ start all. none_put r wires shown words outside carried chip.place number.place register at
          (λ one. loaded_value (λ m. net_value r.net (started start words outside carried) chip.place m.place) one.d one.enable) held (loads start (all refl) None gives))

      pub load_done : (value : Bool) → Some value ≡ loaded_value (value_in table) register.d register.enable
          → (after : List (List Bool)) → after ≡ put_at held chip.place register.q.place value → HasTakenOne r wires shown words outside carried action held after
      load_done value gives after put =
          subst (λ a. HasTakenOne r wires shown words outside carried a held after) (sym is)
          (subst (λ h. HasTakenOne r wires shown words outside carried (Load chip number) held h) (sym put)
          (λ start all. given_put r wires shown words outside carried chip.place number.place register at
          (λ one. loaded_value (λ m. net_value r.net (started start words outside carried) chip.place m.place) one.d one.enable) held low_chip low_net value (loads start (all refl) (Some value) gives)))

  module _ (wire : WireId) (net : ChipNetId) (number : RegId) (ends : Wire) (here : slice_get wires wire.place ≡ Some ends) (register : EmuRegister) (at : slice_get (chip_at r.net ends.to.place).registers number.place ≡ Some register) where
    -- what arrives is what the net shows, or what the wire has carried
    arrives : net.place < (chip_at r.net ends.from.place).nets → (start : List (List Bool)) → AreServed r start shown (not (is_direct wires wire.place))
        → (if ends.latency == 1 then value_in (get_or shown ends.from.place []) net else get_or carried wire.place false)
        ≡ arriving r.net (started start words outside carried) ends wire.place net
    arrives low start all = go (ends.latency == 1) refl
      where
        direct : is_direct wires wire.place ≡ (ends.latency == 1)
        direct = ap (λ o. option_map_or (λ (e : Wire). e.latency == 1) o false) here

        go : (b : Bool) → (ends.latency == 1) ≡ b
            → (if ends.latency == 1 then value_in (get_or shown ends.from.place []) net else get_or carried wire.place false)
            ≡ arriving r.net (started start words outside carried) ends wire.place net
        go true e =
            ap (λ b. if ends.latency == 1 then b else get_or carried wire.place false)
            (net_is r (tables start words outside carried) shown (all (ap not (direct ∙ e))) ends.from.place net.place (net_chip_low r.net ends.from.place net.place low) low)
        go false e =
            ap (λ b. if b then value_in (get_or shown ends.from.place []) net else get_or carried wire.place false) e
            ∙ sym (ap (λ b. if b then net_value r.net (started start words outside carried) ends.from.place net.place else get_or carried wire.place false) e)

    -- a net that the action names is there
    net_there : (action : Action) → action ≡ Send wire net number → CanTake r wires nets action → net.place < (chip_at r.net ends.from.place).nets
    net_there action is can =
        let (one, is_one, register_is, low) = subst (CanTake r wires nets) is can in
        subst (λ (e : Wire). net.place < (chip_at r.net e.from.place).nets) (same_Some one ends (sym is_one ∙ here)) low

    pub send_done : (action : Action) → action ≡ Send wire net number → CanTake r wires nets action
        → (value : Bool) → value ≡ (if ends.latency == 1 then value_in (get_or shown ends.from.place []) net else get_or carried wire.place false)
        → (after : List (List Bool)) → after ≡ put_at held ends.to.place register.q.place value
        → HasTakenOne r wires shown words outside carried action held after
    send_done action is can value gives after put =
        subst (λ a. HasTakenOne r wires shown words outside carried a held after) (sym is)
        (subst (λ h. HasTakenOne r wires shown words outside carried (Send wire net number) held h) (sym put) go)
      where
        low : net.place < (chip_at r.net ends.from.place).nets
        low = net_there action is can

        go : HasTakenOne r wires shown words outside carried (Send wire net number) held (put_at held ends.to.place register.q.place value)
        go start all c n =
            let gives_it : EmuRegister → Option Bool = λ one. Some (arriving r.net (started start words outside carried) ends wire.place net) in
            given_put r wires shown words outside carried ends.to.place number.place register at gives_it held
            (low_in r ends.to.place number.place register at held sizes)
            (q_in r ends.to.place number.place register at wires nets runs held sizes)
            value (ap Some (gives ∙ arrives low start all)) c n
            ∙ ap (λ o. unwrap_or (option_and_then (λ (e : Wire). on_register r.net e.to.place number.place (λ one. Some (arriving r.net (started start words outside carried) e wire.place net)) c n) o) (cell held c n)) (sym here)

-- ## A read port

-- what a row of a table is given is given to the table
row_put : (given : ℕ → ℕ → Option Bool) (held : List (List Bool)) (chip : ℕ) (row : List Bool) → chip < length held
    → ((n : ℕ) → get_or row n false ≡ unwrap_or (given chip n) (cell held chip n))
    → HasGiven (λ c n. if chip == c then given c n else None) held (set held chip row)
row_put given held chip row low gives c n = go (cases_eq c chip)
  where
    go : (c ≡ chip) ⊎ (c ≡ chip → ⊥) → cell (set held chip row) c n ≡ unwrap_or (if chip == c then given c n else None) (cell held c n)
    go (inl same) =
        ap (λ (k : ℕ). cell (set held chip row) k n) same
        ∙ ap (λ r. get_or r n false) (get_or-set_same held chip row [] low)
        ∙ gives n
        ∙ ap (λ (k : ℕ). unwrap_or (given k n) (cell held k n)) (sym same)
        ∙ sym (ap (λ b. unwrap_or (if b then given c n else None) (cell held c n)) (same_number chip c (sym same)))
    go (inr other) =
        ap (λ r. get_or r n false) (get_or-set_other held chip c row [] other)
        ∙ sym (ap (λ b. unwrap_or (if b then given c n else None) (cell held c n)) (is_other chip c (λ e. other (sym e))))

pub row_sizes : (r : Results) (held : List (List Bool)) (chip : ℕ) (row : List Bool) → chip < length held → HaveSizes r held → length row ≡ length (get_or held chip [])
    → HaveSizes r (set held chip row)
row_sizes r held chip row low h size =
    record {
      count = length-set held chip row ∙ h.count;
      sizes = λ c one at. go c (cases_eq c chip) ∙ h.sizes c one at;
    }
  where
    go : (c : ℕ) → (c ≡ chip) ⊎ (c ≡ chip → ⊥) → length (get_or (set held chip row) c []) ≡ length (get_or held c [])
    go c (inl same) =
        ap (λ (k : ℕ). length (get_or (set held chip row) k [])) same
        ∙ ap length (get_or-set_same held chip row [] low)
        ∙ size
        ∙ ap (λ (k : ℕ). length (get_or held k [])) (sym same)
    go c (inr other) = ap length (get_or-set_other held chip c row [] other)

-- the values that nets show are those that come to them
pub same_values : (r : Results) (t : Tables) (shown : List (List Bool)) → AllShown r t.held shown → (chip : ℕ) → chip < length r.net → (named : List ChipNetId) → All (IsThere (chip_at r.net chip).nets) named
    → values_in (get_or shown chip []) named ≡ net_values r.net (state_of t) chip named
same_values r t shown all chip low [] there = refl
same_values r t shown all chip low (n ∷ named) there =
    ap (λ b. b ∷ values_in (get_or shown chip []) named) (net_is r t shown all chip n.place low (All-head (IsThere (chip_at r.net chip).nets) n named there))
    ∙ ap (λ bits. net_value r.net (state_of t) chip n.place ∷ bits) (same_values r t shown all chip low named (All-tail (IsThere (chip_at r.net chip).nets) n named there))

module _ (r : Results) (wires : List Wire) (words : List (List (List ℕ))) (outside carried : List Bool) (shown held : List (List Bool)) (chip : ChipId) (mem : MemId) (number_of : ℕ) (port : EmuRead) (at : read_port r.net chip.place mem.place number_of ≡ Some port) where
  pub read_done : (there : All (IsThere (chip_at r.net chip.place).nets) port.address) (low : chip.place < length r.net) (low_in : chip.place < length held)
      → (table : List Bool) → table ≡ get_or shown chip.place []
      → (address : ℕ) → address ≡ number (values_in table port.address)
      → (word : ℕ) → word ≡ word_in words chip.place mem.place address
      → (action : Action) → action ≡ Read chip mem number_of
      → (after : List (List Bool)) → ShowOnChip port.bits word chip.place held after
      → HasTakenOne r wires shown words outside carried action held after
  read_done there low low_in table table_is address address_is word word_is action is after show =
      subst (λ a. HasTakenOne r wires shown words outside carried a held after) (sym is)
      (subst (λ h. HasTakenOne r wires shown words outside carried (Read chip mem number_of) held h) (sym show.put) go)
    where
      go : HasTakenOne r wires shown words outside carried (Read chip mem number_of) held (set held chip.place show.row)
      go start served =
          let all : AllShown r start shown = served refl in
          let x : State = started start words outside carried in
          let given : ℕ → ℕ → Option Bool = λ c n. option_and_then (λ one. read_bit r.net x c mem.place one n) (read_port r.net c mem.place number_of) in
          let number_is : address ≡ net_number r.net x chip.place port.address =
          address_is ∙ ap (λ t. number (values_in t port.address)) table_is ∙ ap number (same_values r (tables start words outside carried) shown all chip.place low port.address there) in
          let is_word : word ≡ x.word chip.place mem.place (net_number r.net x chip.place port.address) =
          word_is ∙ ap (λ (a : ℕ). get_or (get_or (get_or words chip.place []) mem.place []) a 0) number_is in
          row_put given held chip.place show.row low_in
          (λ n.
          show.shown n
          ∙ ap (λ (w : ℕ). unwrap_or (option_map (bit_of w) (position (is_chip_net n) port.bits)) (cell held chip.place n)) is_word
          ∙ sym (ap (λ o. unwrap_or (option_and_then (λ one. read_bit r.net x chip.place mem.place one n) o) (cell held chip.place n)) at))

-- ## Several actions

-- where the second of two is false, not both are true
pub not_both : (a b : Bool) → b ≡ false → (a && b) ≡ false
not_both true b e = e
not_both false b e = refl

pub first_of_two : (o p : Option Bool) (x : Bool) → unwrap_or o (unwrap_or p x) ≡ unwrap_or (option_or o p) x
first_of_two None p x = refl
first_of_two (Some y) p x = refl

-- the rest of a list, from the place of an action on
pub split_at : (actions : List Action) (k : ℕ) (left : ℕ) → left ≡ k + 1 → (action : Action) → slice_get actions k ≡ Some action → drop k actions ≡ action ∷ drop left actions
split_at actions k left next action at =
    drop_more actions k action (slice_get_within actions k action at)
    ∙ ap (λ a. a ∷ drop (k + 1) actions) (get_or_from_slice_get actions k action action at)
    ∙ ap (λ (i : ℕ). action ∷ drop i actions) (sym next)

module _ (r : Results) (wires : List Wire) (shown : List (List Bool)) (words : List (List (List ℕ))) (outside carried : List Bool) where
  pub none_taken : (held : List (List Bool)) → HasTaken r wires shown words outside carried [] held held
  none_taken held start all c n = refl

  pub one_taken : (actions : List Action) (k : ℕ) (left : ℕ) → left ≡ k + 1
      → (action : Action) → slice_get actions k ≡ Some action
      → (before held after : List (List Bool)) → HasTaken r wires shown words outside carried (drop left actions) before held → HasTakenOne r wires shown words outside carried action held after
      → HasTaken r wires shown words outside carried (drop k actions) before after
  one_taken actions k left next action at before held after rest one =
      subst (λ (some : List Action). HasTaken r wires shown words outside carried some before after) (sym (split_at actions k left next action at)) step
    where
      step : HasTaken r wires shown words outside carried (action ∷ drop left actions) before after
      step start all c n =
          one start (λ e. all (ap (λ b. b && list_all (takes_no_net wires) (drop left actions)) e)) c n
          ∙ ap (unwrap_or (action_value r.net wires (started start words outside carried) action c n))
          (rest start (λ e. all (not_both (takes_no_net wires action) (list_all (takes_no_net wires) (drop left actions)) e)) c n)
          ∙ first_of_two (action_value r.net wires (started start words outside carried) action c n)
          (first_given (λ a. action_value r.net wires (started start words outside carried) a c n) (drop left actions))
          (cell before c n)

  pub all_taken : (actions : List Action) (left : ℕ) → left ≡ 0 → (before after : List (List Bool))
      → HasTaken r wires shown words outside carried (drop left actions) before after → HasTaken r wires shown words outside carried actions before after
  all_taken actions left none before after h =
      subst (λ (k : ℕ). HasTaken r wires shown words outside carried (drop k actions) before after) none h
