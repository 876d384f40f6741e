-- What holds of all actions of a frame holds of those that end in a slot.
use Rattle.std.proofs.Common.{ℕ, suc, ◌+◌, List, [], ◌∷◌, get_or}
use Rattle.std.specs.Prelude.{flat_map, map, All, Contains}
use Rattle.std.specs.List.{enumerate_from, filter}
use Rattle.std.proofs.lemmas.List.Elements.{All-nil, All-append, All-map, All-filter, Contains-get_or}
use Rattle.id_arena.specs.declared.wire.Wire.{Wire}
use Rattle.emu_machine.specs.declared.schedule.Action.{Action}
use Rattle.emu_machine.specs.declared.schedule.Slot.{Slot}
use Rattle.emu_machine.specs.State.{actions_of, Timed, timed, timed_actions, is_last, ending}

-- all actions of some slots, with their numbers from one on
abbrev pub timed_from : ℕ → List Slot → List Timed
timed_from k slots = flat_map (λ (t, slot). map (timed t) slot.actions) (enumerate_from k slots)

module _ (P : Action → Type 0) where
  all_timed : (k : ℕ) (slots : List Slot) → ((t : ℕ) (a : Action) → Contains (actions_of slots t) a → P a) → All (λ a. P a.action) (timed_from k slots)
  all_timed k [] h = All-nil (λ (a : Timed). P a.action)
  all_timed k (slot ∷ slots) h =
      All-append (λ (a : Timed). P a.action) (map (timed k) slot.actions) (timed_from (k + 1) slots)
      (All-map (λ (a : Timed). P a.action) (timed k) slot.actions (λ j d low. h 0 (get_or slot.actions j d) (Contains-get_or slot.actions j d low)))
      (all_timed (k + 1) slots (λ t. h (suc t)))

  -- what holds of all actions of a frame holds of those that end in a slot
  pub all_ending : (wires : List Wire) (slots : List Slot) (t : ℕ) → ((u : ℕ) (a : Action) → Contains (actions_of slots u) a → P a) → All P (ending wires slots t)
  all_ending wires slots t h =
      All-map P (λ (a : Timed). a.action) (filter (is_last wires t) (timed_actions slots))
      (All-filter (is_last wires t) (λ (a : Timed). P a.action) (timed_actions slots) (all_timed 0 slots h))
