-- What actions give to registers, to words and to wires, where all is read from what nets showed before.
-- The rule is told in docs/RULES.md, "Actions, slots and frames".
use Rattle.std.specs.Prelude.{◌≡◌, ◌==◌, ℕ, Bool, true, false, not, Option, List, [], length, slice_get, slice_set, get_or, unwrap_or, option_map, position}
use Rattle.std.specs.List.{list_all}
use Rattle.std.specs.Option.{option_map_or}
use Rattle.id_arena.specs.declared.keys.ChipNetId.{ChipNetId}
use Rattle.id_arena.specs.declared.wire.Wire.{Wire}
use Rattle.design_core.specs.Operation.{bit_of}
use Rattle.emu_machine.specs.declared.schedule.Action.{Action}
use Rattle.emu_machine.specs.declared.schedule.Action.TheVariants.{Input, Load, Send, Write, Read}
use Rattle.emu_machine.specs.Results.{Results}
use Rattle.emu_machine.specs.Netlist.{is_chip_net}
use Rattle.emu_machine.specs.State.{action_value, action_word, action_carried, first_given}
use Rattle.cycle_sim.specs.Values.{cell}
use Rattle.cycle_sim.specs.Tables.{Tables, tables, word_in, state_of, AllShown}

-- whether a wire has a latency of one slot
abbrev pub is_direct : List Wire → ℕ → Bool
is_direct wires w = option_map_or (λ ends. ends.latency == 1) (slice_get wires w) false

-- Whether what an action gives in its last slot hangs on no net that the slot starts with: an `input` takes an
-- outside value, and a `send` over a longer wire what the wire carries.
abbrev pub takes_no_net : List Wire → Action → Bool
takes_no_net wires (Input chip register net) = true
takes_no_net wires (Load chip register) = false
takes_no_net wires (Send wire net register) = not (is_direct wires wire.place)
takes_no_net wires (Write chip mem port) = false
takes_no_net wires (Read chip mem port) = false

-- whether an action puts nothing on a wire and nothing in a word
abbrev pub leaves_all : Action → Bool
leaves_all (Input chip register net) = true
leaves_all (Load chip register) = true
leaves_all (Send wire net register) = false
leaves_all (Write chip mem port) = false
leaves_all (Read chip mem port) = true

-- each net holds what it is given, if it is given anything, and otherwise what it held
abbrev pub HasGiven : (ℕ → ℕ → Option Bool) → List (List Bool) → List (List Bool) → Type 0
HasGiven given before after = (c n : ℕ) → cell after c n ≡ unwrap_or (given c n) (cell before c n)

-- the nets show what comes to them from what is held, unless nobody reads them
abbrev pub AreServed : Results → List (List Bool) → List (List Bool) → Bool → Type 0
AreServed r held shown spared = spared ≡ false → AllShown r held shown

-- registers have taken what an action gives in its last slot, from a state in which the nets show these values
abbrev pub HasTakenOne : Results → List Wire → List (List Bool) → List (List (List ℕ)) → List Bool → List Bool → Action → List (List Bool) → List (List Bool) → Type 0
HasTakenOne r wires shown words outside carried action before after =
    (start : List (List Bool)) → AreServed r start shown (takes_no_net wires action)
    → HasGiven (action_value r.net wires (state_of (tables start words outside carried)) action) before after

-- the same for some actions, of which the first to give anything counts
abbrev pub HasTaken : Results → List Wire → List (List Bool) → List (List (List ℕ)) → List Bool → List Bool → List Action → List (List Bool) → List (List Bool) → Type 0
HasTaken r wires shown words outside carried actions before after =
    (start : List (List Bool)) → AreServed r start shown (list_all (takes_no_net wires) actions)
    → HasGiven (λ c n. first_given (λ a. action_value r.net wires (state_of (tables start words outside carried)) a c n) actions) before after

-- each wire carries what it is given, if it is given anything, and otherwise what it carried
abbrev pub IsCarrying : (ℕ → Option Bool) → List Bool → List Bool → Type 0
IsCarrying given before after = (w : ℕ) → get_or after w false ≡ unwrap_or (given w) (get_or before w false)

-- wires have been given what an action sends, from a state in which the nets show these values
abbrev pub HasSentOne : Results → List Wire → List (List Bool) → Action → List Bool → List Bool → Type 0
HasSentOne r wires shown action before after =
    (t : Tables) → AreServed r t.held shown (leaves_all action) → IsCarrying (action_carried r.net wires (state_of t) action) before after

-- the same for some actions, of which the first to give anything counts
abbrev pub HasSent : Results → List Wire → List (List Bool) → List Action → List Bool → List Bool → Type 0
HasSent r wires shown actions before after =
    (t : Tables) → AreServed r t.held shown (list_all leaves_all actions)
    → IsCarrying (λ w. first_given (λ a. action_carried r.net wires (state_of t) a w) actions) before after

-- each word is the one that it is given, if it is given one, and otherwise the one from before
abbrev pub AreStored : (ℕ → ℕ → ℕ → Option ℕ) → List (List (List ℕ)) → List (List (List ℕ)) → Type 0
AreStored given before after = (c m a : ℕ) → word_in after c m a ≡ unwrap_or (given c m a) (word_in before c m a)

-- words have been given what an action stores, from a state in which the nets show these values
abbrev pub HasStoredOne : Results → List (List Bool) → Action → List (List (List ℕ)) → List (List (List ℕ)) → Type 0
HasStoredOne r shown action before after =
    (t : Tables) → AreServed r t.held shown (leaves_all action) → AreStored (action_word r.net (state_of t) action) before after

-- the same for some actions, of which the first to give anything counts
abbrev pub HasStored : Results → List (List Bool) → List Action → List (List (List ℕ)) → List (List (List ℕ)) → Type 0
HasStored r shown actions before after =
    (t : Tables) → AreServed r t.held shown (list_all leaves_all actions)
    → AreStored (λ c m a. first_given (λ action. action_word r.net (state_of t) action c m a) actions) before after

-- nets that show a word, bit by bit from bit 0: where a net stands twice, its first place counts
abbrev pub ShowWord : List ChipNetId → ℕ → List Bool → List Bool → Type 0
ShowWord bits word before after =
    (n : ℕ) → get_or after n false ≡ unwrap_or (option_map (bit_of word) (position (is_chip_net n) bits)) (get_or before n false)

-- the nets of a chip show a word, and its other nets and all other chips hold what they held
pub record ShowOnChip (bits : List ChipNetId) (word chip : ℕ) (before after : List (List Bool)) : Type 0 where
  pub row : List Bool
  pub put : after ≡ slice_set before chip row
  pub size : length row ≡ length (get_or before chip [])
  pub shown : ShowWord bits word (get_or before chip []) row

-- the words with one of them in the place of another
abbrev pub with_word : List (List (List ℕ)) → ℕ → ℕ → ℕ → ℕ → List (List (List ℕ))
with_word words chip mem address word =
    slice_set words chip (slice_set (get_or words chip []) mem (slice_set (get_or (get_or words chip []) mem []) address word))
