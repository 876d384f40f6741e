-- What actions put in words.
use Rattle.std.proofs.Common.{◌≡◌, ◌<◌, ◌+◌, ℕ, Bool, true, false, List, [], ◌∷◌, drop, set, get_or, length, refl, sym, ap, subst, ◌∙◌, inl, inr, if◌then◌else◌}
use Rattle.std.specs.Prelude.{◌==◌, ◌&&◌, ◌⊎◌, All, Option, Some, None, slice_get, unwrap_or, option_and_then}
use Rattle.std.specs.List.{list_all}
use Rattle.std.specs.Option.{option_or}
use Rattle.std.proofs.lemmas.Bool.{cases_eq}
use Rattle.std.proofs.lemmas.List.{length-set, get_or-set_same, get_or-set_other}
use Rattle.id_arena.specs.declared.keys.ChipId.{ChipId}
use Rattle.id_arena.specs.declared.keys.MemId.{MemId}
use Rattle.design_core.specs.Operation.{number}
use Rattle.emu_machine.specs.declared.netlist.EmuWrite.{EmuWrite}
use Rattle.emu_machine.specs.Results.{Results}
use Rattle.emu_machine.specs.Netlist.{chip_at}
use Rattle.emu_machine.specs.declared.schedule.Action.{Action}
use Rattle.emu_machine.specs.declared.schedule.Action.TheVariants.{Write}
use Rattle.emu_machine.specs.State.{State, net_value, net_number, write_port, stored_word, action_word, first_given}
use Rattle.facts.proofs.Tests.{same_number}
use Rattle.cycle_sim.specs.Standing.{IsThere}
use Rattle.cycle_sim.specs.Values.{value_in, values_in}
use Rattle.cycle_sim.specs.Tables.{Tables, word_in, state_of, HaveWords, AllShown}
use Rattle.cycle_sim.specs.Takes.{AreStored, HasStoredOne, HasStored, with_word, leaves_all}
use Rattle.cycle_sim.proofs.Counting.{is_other}
use Rattle.cycle_sim.proofs.Chips.{net_is}
use Rattle.cycle_sim.proofs.Taking.{not_both, same_values, split_at}

-- ## Several actions

first_of_two : {X : Type 0} (o p : Option X) (x : X) → unwrap_or o (unwrap_or p x) ≡ unwrap_or (option_or o p) x
first_of_two None p x = refl
first_of_two (Some y) p x = refl

module _ (r : Results) (shown : List (List Bool)) where
  pub nothing_yet : (words : List (List (List ℕ))) → HasStored r shown [] words words
  nothing_yet words t all c m a = refl

  pub one_stored : (actions : List Action) (k : ℕ) (left : ℕ) → left ≡ k + 1
      → (action : Action) → slice_get actions k ≡ Some action
      → (before words after : List (List (List ℕ))) → HasStored r shown (drop left actions) before words → HasStoredOne r shown action words after
      → HasStored r shown (drop k actions) before after
  one_stored actions k left next action at before words after rest one =
      subst (λ (some : List Action). HasStored r shown some before after) (sym (split_at actions k left next action at)) step
    where
      step : HasStored r shown (action ∷ drop left actions) before after
      step t all c m a =
          one t (λ e. all (ap (λ b. b && list_all leaves_all (drop left actions)) e)) c m a
          ∙ ap (unwrap_or (action_word r.net (state_of t) action c m a)) (rest t (λ e. all (not_both (leaves_all action) (list_all leaves_all (drop left actions)) e)) c m a)
          ∙ first_of_two (action_word r.net (state_of t) action c m a)
          (first_given (λ one. action_word r.net (state_of t) one c m a) (drop left actions))
          (word_in before c m a)

  pub all_stored : (actions : List Action) (left : ℕ) → left ≡ 0 → (before after : List (List (List ℕ)))
      → HasStored r shown (drop left actions) before after → HasStored r shown actions before after
  all_stored actions left none before after h =
      subst (λ (k : ℕ). HasStored r shown (drop k actions) before after) none h

-- ## One word is put

-- a word for one address of one memory of one chip
abbrev word_at : ℕ → ℕ → ℕ → ℕ → ℕ → ℕ → ℕ → Option ℕ
word_at chip mem address word c m a = if (chip == c) && (mem == m) then (if address == a then Some word else None) else None

module _ (words : List (List (List ℕ))) (chip mem address word : ℕ) (low_c : chip < length words) (low_m : mem < length (get_or words chip [])) (low_a : address < length (get_or (get_or words chip []) mem [])) where
  abbrev one_row : List ℕ
  one_row = set (get_or (get_or words chip []) mem []) address word

  abbrev rows : List (List ℕ)
  rows = set (get_or words chip []) mem one_row

  in_row : (a : ℕ) → (a ≡ address) ⊎ (a ≡ address → ⊥) → get_or one_row a 0 ≡ unwrap_or (if address == a then Some word else None) (word_in words chip mem a)
  in_row a (inl same) =
      ap (λ (k : ℕ). get_or one_row k 0) same
      ∙ get_or-set_same (get_or (get_or words chip []) mem []) address word 0 low_a
      ∙ sym (ap (λ b. unwrap_or (if b then Some word else None) (word_in words chip mem a)) (same_number address a (sym same)))
  in_row a (inr other) =
      get_or-set_other (get_or (get_or words chip []) mem []) address a word 0 other
      ∙ sym (ap (λ b. unwrap_or (if b then Some word else None) (word_in words chip mem a)) (is_other address a (λ e. other (sym e))))

  in_rows : (m a : ℕ) → (m ≡ mem) ⊎ (m ≡ mem → ⊥) → get_or (get_or rows m []) a 0 ≡ unwrap_or (if mem == m then (if address == a then Some word else None) else None) (word_in words chip m a)
  in_rows m a (inl same) =
      ap (λ (k : ℕ). get_or (get_or rows k []) a 0) same
      ∙ ap (λ row. get_or row a 0) (get_or-set_same (get_or words chip []) mem one_row [] low_m)
      ∙ in_row a (cases_eq a address)
      ∙ ap (λ (k : ℕ). unwrap_or (if address == a then Some word else None) (word_in words chip k a)) (sym same)
      ∙ sym (ap (λ b. unwrap_or (if b then (if address == a then Some word else None) else None) (word_in words chip m a)) (same_number mem m (sym same)))
  in_rows m a (inr other) =
      ap (λ row. get_or row a 0) (get_or-set_other (get_or words chip []) mem m one_row [] other)
      ∙ sym (ap (λ b. unwrap_or (if b then (if address == a then Some word else None) else None) (word_in words chip m a)) (is_other mem m (λ e. other (sym e))))

  in_chips : (c m a : ℕ) → (c ≡ chip) ⊎ (c ≡ chip → ⊥) → word_in (with_word words chip mem address word) c m a ≡ unwrap_or (word_at chip mem address word c m a) (word_in words c m a)
  in_chips c m a (inl same) =
      ap (λ (k : ℕ). word_in (with_word words chip mem address word) k m a) same
      ∙ ap (λ some. get_or (get_or some m []) a 0) (get_or-set_same words chip rows [] low_c)
      ∙ in_rows m a (cases_eq m mem)
      ∙ ap (λ (k : ℕ). unwrap_or (if mem == m then (if address == a then Some word else None) else None) (word_in words k m a)) (sym same)
      ∙ sym (ap (λ b. unwrap_or (if b && (mem == m) then (if address == a then Some word else None) else None) (word_in words c m a)) (same_number chip c (sym same)))
  in_chips c m a (inr other) =
      ap (λ some. get_or (get_or some m []) a 0) (get_or-set_other words chip c rows [] other)
      ∙ sym (ap (λ b. unwrap_or (if b && (mem == m) then (if address == a then Some word else None) else None) (word_in words c m a)) (is_other chip c (λ e. other (sym e))))

  pub one_put : AreStored (word_at chip mem address word) words (with_word words chip mem address word)
  one_put c m a = in_chips c m a (cases_eq c chip)

  pub put_fits : (r : Results) → HaveWords r words → HaveWords r (with_word words chip mem address word)
  put_fits r h =
      record {
        count = length-set words chip rows ∙ h.count;
        each = λ c one at.
            record {
              count = counts c (cases_eq c chip) ∙ (h.each c one at).count;
              sizes = λ m memory at_m. sizes c m (cases_eq c chip) (cases_eq m mem) ∙ (h.each c one at).sizes m memory at_m;
            };
      }
    where
      counts : (c : ℕ) → (c ≡ chip) ⊎ (c ≡ chip → ⊥) → length (get_or (with_word words chip mem address word) c []) ≡ length (get_or words c [])
      counts c (inl same) =
          ap (λ (k : ℕ). length (get_or (with_word words chip mem address word) k [])) same
          ∙ ap length (get_or-set_same words chip rows [] low_c)
          ∙ length-set (get_or words chip []) mem one_row
          ∙ ap (λ (k : ℕ). length (get_or words k [])) (sym same)
      counts c (inr other) = ap length (get_or-set_other words chip c rows [] other)

      sizes : (c m : ℕ) → (c ≡ chip) ⊎ (c ≡ chip → ⊥) → (m ≡ mem) ⊎ (m ≡ mem → ⊥)
          → length (get_or (get_or (with_word words chip mem address word) c []) m []) ≡ length (get_or (get_or words c []) m [])
      sizes c m (inl same) (inl here) =
          ap (λ (k : ℕ). length (get_or (get_or (with_word words chip mem address word) k []) m [])) same
          ∙ ap (λ some. length (get_or some m [])) (get_or-set_same words chip rows [] low_c)
          ∙ ap (λ (k : ℕ). length (get_or rows k [])) here
          ∙ ap length (get_or-set_same (get_or words chip []) mem one_row [] low_m)
          ∙ length-set (get_or (get_or words chip []) mem []) address word
          ∙ ap (λ (k : ℕ). length (get_or (get_or words chip []) k [])) (sym here)
          ∙ ap (λ (k : ℕ). length (get_or (get_or words k []) m [])) (sym same)
      sizes c m (inl same) (inr other) =
          ap (λ (k : ℕ). length (get_or (get_or (with_word words chip mem address word) k []) m [])) same
          ∙ ap (λ some. length (get_or some m [])) (get_or-set_same words chip rows [] low_c)
          ∙ ap length (get_or-set_other (get_or words chip []) mem m one_row [] other)
          ∙ ap (λ (k : ℕ). length (get_or (get_or words k []) m [])) (sym same)
      sizes c m (inr other) here = ap (λ some. length (get_or some m [])) (get_or-set_other words chip c rows [] other)

-- ## One action

module _ (r : Results) (shown : List (List Bool)) (chip : ChipId) (mem : MemId) (k : ℕ) (port : EmuWrite) (at : write_port r.net chip.place mem.place k ≡ Some port) (low : chip.place < length r.net) (there : IsThere (chip_at r.net chip.place).nets port.enable) (in_address : All (IsThere (chip_at r.net chip.place).nets) port.address) (in_feed : All (IsThere (chip_at r.net chip.place).nets) port.feed) where
  abbrev table : List Bool
  table = get_or shown chip.place []

  -- what the action gives to a word
  gives : (t : Tables) → AllShown r t.held shown → (c m a : ℕ)
      → action_word r.net (state_of t) (Write chip mem k) c m a
      ≡ (if value_in table port.enable then word_at chip.place mem.place (number (values_in table port.address)) (number (values_in table port.feed)) c m a else None)
  gives t all c m a = go (cases_eq c chip.place) (cases_eq m mem.place)
    where
      x : State
      x = state_of t

      enables : value_in table port.enable ≡ net_value r.net x chip.place port.enable.place
      enables = net_is r t shown all chip.place port.enable.place low there

      address_is : number (values_in table port.address) ≡ net_number r.net x chip.place port.address
      address_is = ap number (same_values r t shown all chip.place low port.address in_address)

      feed_is : number (values_in table port.feed) ≡ net_number r.net x chip.place port.feed
      feed_is = ap number (same_values r t shown all chip.place low port.feed in_feed)

      turned : (on here : Bool) (o : Option ℕ) → (if on && here then o else None) ≡ (if on then (if here then o else None) else None)
      turned true here o = refl
      turned false here o = refl

      nothing : (on : Bool) → (let o : Option ℕ = None in o) ≡ (if on then None else None)
      nothing true = refl
      nothing false = refl

      go : (c ≡ chip.place) ⊎ (c ≡ chip.place → ⊥) → (m ≡ mem.place) ⊎ (m ≡ mem.place → ⊥)
          → action_word r.net x (Write chip mem k) c m a
          ≡ (if value_in table port.enable then word_at chip.place mem.place (number (values_in table port.address)) (number (values_in table port.feed)) c m a else None)
      go (inl same) (inl here) =
          ap (λ b. if b && (mem.place == m) then option_and_then (λ w. stored_word r.net x c w a) (write_port r.net c m k) else None) (same_number chip.place c (sym same))
          ∙ ap (λ b. if b then option_and_then (λ w. stored_word r.net x c w a) (write_port r.net c m k) else None) (same_number mem.place m (sym here))
          ∙ ap (λ (i : ℕ). option_and_then (λ w. stored_word r.net x i w a) (write_port r.net i m k)) same
          ∙ ap (λ (i : ℕ). option_and_then (λ w. stored_word r.net x chip.place w a) (write_port r.net chip.place i k)) here
          ∙ ap (λ o. option_and_then (λ w. stored_word r.net x chip.place w a) o) at
          ∙ turned (net_value r.net x chip.place port.enable.place) (net_number r.net x chip.place port.address == a) (Some (net_number r.net x chip.place port.feed))
          ∙ ap (λ b. if b then (if net_number r.net x chip.place port.address == a then Some (net_number r.net x chip.place port.feed) else None) else None) (sym enables)
          ∙ ap (λ (n : ℕ). if value_in table port.enable then (if n == a then Some (net_number r.net x chip.place port.feed) else None) else None) (sym address_is)
          ∙ ap (λ (n : ℕ). if value_in table port.enable then (if number (values_in table port.address) == a then Some n else None) else None) (sym feed_is)
          ∙ sym (ap (λ b. if value_in table port.enable then (if b && (mem.place == m) then (if number (values_in table port.address) == a then Some (number (values_in table port.feed)) else None) else None) else None) (same_number chip.place c (sym same))
          ∙ ap (λ b. if value_in table port.enable then (if b then (if number (values_in table port.address) == a then Some (number (values_in table port.feed)) else None) else None) else None) (same_number mem.place m (sym here)))
      go (inl same) (inr other) =
          ap (λ b. if b && (mem.place == m) then option_and_then (λ w. stored_word r.net x c w a) (write_port r.net c m k) else None) (same_number chip.place c (sym same))
          ∙ ap (λ b. if b then option_and_then (λ w. stored_word r.net x c w a) (write_port r.net c m k) else None) (is_other mem.place m (λ e. other (sym e)))
          ∙ nothing (value_in table port.enable)
          ∙ sym (ap (λ b. if value_in table port.enable then (if b && (mem.place == m) then (if number (values_in table port.address) == a then Some (number (values_in table port.feed)) else None) else None) else None) (same_number chip.place c (sym same))
          ∙ ap (λ b. if value_in table port.enable then (if b then (if number (values_in table port.address) == a then Some (number (values_in table port.feed)) else None) else None) else None) (is_other mem.place m (λ e. other (sym e))))
      go (inr other) here =
          ap (λ b. if b && (mem.place == m) then option_and_then (λ w. stored_word r.net x c w a) (write_port r.net c m k) else None) (is_other chip.place c (λ e. other (sym e)))
          ∙ nothing (value_in table port.enable)
          ∙ sym (ap (λ b. if value_in table port.enable then (if b && (mem.place == m) then (if number (values_in table port.address) == a then Some (number (values_in table port.feed)) else None) else None) else None) (is_other chip.place c (λ e. other (sym e))))

  module _ (words : List (List (List ℕ))) (action : Action) (is : action ≡ Write chip mem k) (on : Bool) (on_is : on ≡ value_in table port.enable) where
    -- where the enable is 0 no word changes
    pub store_left : on ≡ false → HasStoredOne r shown action words words
    store_left off = subst (λ one. HasStoredOne r shown one words words) (sym is) go
      where
        go : HasStoredOne r shown (Write chip mem k) words words
        go t all c m a =
            sym (ap (λ o. unwrap_or o (word_in words c m a)) (gives t (all refl) c m a
            ∙ ap (λ b. if b then word_at chip.place mem.place (number (values_in table port.address)) (number (values_in table port.feed)) c m a else None) (sym on_is ∙ off)))

    -- and where it is 1 the word at the address becomes the data
    pub store_done : on ≡ true → (address word : ℕ) → address ≡ number (values_in table port.address) → word ≡ number (values_in table port.feed)
        → chip.place < length words → mem.place < length (get_or words chip.place []) → address < length (get_or (get_or words chip.place []) mem.place [])
        → (after : List (List (List ℕ))) → after ≡ with_word words chip.place mem.place address word → HasStoredOne r shown action words after
    store_done up address word address_is word_is low_c low_m low_a after put =
        subst (λ one. HasStoredOne r shown one words after) (sym is)
        (subst (λ h. HasStoredOne r shown (Write chip mem k) words h) (sym put) go)
      where
        go : HasStoredOne r shown (Write chip mem k) words (with_word words chip.place mem.place address word)
        go t all c m a =
            one_put words chip.place mem.place address word low_c low_m low_a c m a
            ∙ ap (λ (n : ℕ). unwrap_or (word_at chip.place mem.place n word c m a) (word_in words c m a)) address_is
            ∙ ap (λ (n : ℕ). unwrap_or (word_at chip.place mem.place (number (values_in table port.address)) n c m a) (word_in words c m a)) word_is
            ∙ sym (ap (λ o. unwrap_or o (word_in words c m a)) (gives t (all refl) c m a
            ∙ ap (λ b. if b then word_at chip.place mem.place (number (values_in table port.address)) (number (values_in table port.feed)) c m a else None) (sym on_is ∙ up)))
