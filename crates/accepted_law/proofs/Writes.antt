-- Each write of a memory that ends a frame unbroken counts: one that does not breaks the memory for the
-- rest of the frame.
use Rattle.std.proofs.Common.{◌≡◌, ℕ, zero, suc, ◌<◌, arith, Bool, true, false, not, List, [], ◌∷◌, length, refl, sym, ap, ◌∙◌, if◌then◌else◌}
use Rattle.std.specs.Prelude.{◌==◌, ◌&&◌, ◌||◌, Option, Some, None, slice_get}
use Rattle.std.specs.List.{list_any}
use Rattle.std.specs.Option.{option_or, option_map_or}
use Rattle.std.proofs.lemmas.Option.{none-some, same_Some}
use Rattle.std.proofs.lemmas.Bool.{and_from}
use Rattle.std.proofs.Math.Bool.{or-true}
use Rattle.design_core.specs.declared.node.NodeId.{NodeId}
use Rattle.emu_machine.specs.declared.place.Thing.{Thing}
use Rattle.emu_machine.specs.declared.place.Thing.TheVariants as thing
use Rattle.emu_machine.specs.declared.schedule.Action.{Action}
use Rattle.emu_machine.specs.declared.schedule.Action.TheVariants as action
use Rattle.emu_machine.specs.State.{first_given, timed, is_last, frame_slots}
use Rattle.emu_machine.specs.Marks.{MarkState, port_written, write_counts, marks_at}
use Rattle.emu_machine.specs.Acceptance.{Case, slot_actions, used_if, same_thing, uses_thing}
use Rattle.facts.proofs.Tests.{no, left, right, number_same, must, same_number}
use Rattle.marks_law.specs.Slots.{FrameFits}
use Rattle.marks_law.proofs.FrameActions.{used_once_in}
use Rattle.slot_law.proofs.Targets.{memory_thing}
use Rattle.accepted_law.proofs.Ending.{from_then_on, in_slots, is_its_last}

-- what one action gives is given, where none before it gives anything
given_first : {A : Type 0} (gives : Action → Option A) (it : A) (actions : List Action) (j : ℕ) (a : Action) → slice_get actions j ≡ Some a → gives a ≡ Some it
    → ((i : ℕ) (b : Action) → i < j → slice_get actions i ≡ Some b → gives b ≡ None)
    → first_given gives actions ≡ Some it
given_first gives it [] j a at e earlier = absurd (none-some a at)
given_first gives it (b ∷ actions) zero a at e earlier =
    ap (λ o. option_or o (first_given gives actions)) (ap gives (same_Some b a at) ∙ e)
given_first gives it (b ∷ actions) (suc j) a at e earlier =
    let first : 0 < suc j = omega arith in
    ap (λ o. option_or o (first_given gives actions)) (earlier 0 b first refl)
    ∙ given_first gives it actions j a at e (λ i d less found. let more : suc i < suc j = omega arith in earlier (suc i) d more found)

-- a thing that is used in a slot is among those
uses_one : (what other : Thing) (b : Bool) → b ≡ true → same_thing what other ≡ true → list_any (same_thing what) (used_if b other) ≡ true
uses_one what other true e same = ap (λ b. b || false) same
uses_one what other false e same = no e

-- an action that writes a memory uses it in its slot
writer_uses : (c : Case) (t chip m place : ℕ) (a : Action) → port_written chip m a ≡ Some place → uses_thing c.board.wires t (memory_thing chip m) (timed t a) ≡ true
writer_uses c t chip m place (action.Write on mem port) e = go ((on.place == chip) && (mem.place == m)) refl e
  where
    go : (b : Bool) → ((on.place == chip) && (mem.place == m)) ≡ b → (if b then Some port else None) ≡ Some place
        → uses_thing c.board.wires t (memory_thing chip m) (timed t (action.Write on mem port)) ≡ true
    go true h e =
        uses_one (memory_thing chip m) (thing.Memory on mem) (is_last c.board.wires t (timed t (action.Write on mem port)))
        (is_its_last c.board.wires t (action.Write on mem port) refl)
        (and_from (chip == on.place) (m == mem.place)
        (same_number chip on.place (sym (number_same on.place chip (left (on.place == chip) (mem.place == m) h))))
        (same_number m mem.place (sym (number_same mem.place m (right (on.place == chip) (mem.place == m) h)))))
    go false h e = absurd (none-some place e)
writer_uses c t chip m place (action.Input on register net) e = absurd (none-some place e)
writer_uses c t chip m place (action.Load on register) e = absurd (none-some place e)
writer_uses c t chip m place (action.Send wire net register) e = absurd (none-some place e)
writer_uses c t chip m place (action.Read on mem port) e = absurd (none-some place e)

module _ (c : Case) (frame : ℕ) (fit : FrameFits c frame) (inside : NodeId → Bool) (chip m place : ℕ) where
  abbrev write : Action
  write = action.Write (record { place = chip }) (record { place = m }) place

  it_writes : port_written chip m write ≡ Some place
  it_writes =
      ap (λ (b : Bool). if b then Some place else None) (and_from (chip == chip) (m == m) (same_number chip chip refl) (same_number m m refl))

  -- a write of a slot is the only one of its memory
  only_write : (t j : ℕ) → slice_get (slot_actions c frame t) j ≡ Some write → first_given (port_written chip m) (slot_actions c frame t) ≡ Some place
  only_write t j at =
      given_first (port_written chip m) place (slot_actions c frame t) j write at it_writes (λ i b less found. idle i b less found (port_written chip m b) refl)
    where
      idle : (i : ℕ) (b : Action) → i < j → slice_get (slot_actions c frame t) i ≡ Some b → (o : Option ℕ) → port_written chip m b ≡ o → port_written chip m b ≡ None
      idle i b less found None e = e
      idle i b less found (Some other) e =
          absurd
          (used_once_in c frame fit t t (memory_thing chip m) i j b write less found at (writer_uses c t chip m other b e) (writer_uses c t chip m place write it_writes))

  -- the marks at the start of a slot
  abbrev marks : ℕ → MarkState
  marks t = marks_at c.design c.results c.board.wires inside (frame_slots c.results frame) t

  abbrev IsBroken : ℕ → Type 0
  IsBroken t = (marks t).broken chip m ≡ true

  stays_broken : (t : ℕ) → IsBroken t → IsBroken (suc t)
  stays_broken t h =
      ap (λ b. b || option_map_or (λ j. not (write_counts c.design c.results inside (marks t) chip m j)) (first_given (port_written chip m) (slot_actions c frame t)) false) h

  -- a write of a memory that is unbroken at the end of the frame counts
  pub write_is_counted : (t j : ℕ)
      → (marks (length (frame_slots c.results frame))).broken chip m ≡ false
      → slice_get (slot_actions c frame t) j ≡ Some write
      → write_counts c.design c.results inside (marks t) chip m place ≡ true
  write_is_counted t j whole at =
      must (write_counts c.design c.results inside (marks t) chip m place)
      (λ h.
      let low : t < length (frame_slots c.results frame) = in_slots (frame_slots c.results frame) t j write at in
      let next : suc t < suc (length (frame_slots c.results frame)) = omega arith in
      let now : IsBroken (suc t) =
      ap (λ o. (marks t).broken chip m || option_map_or (λ j. not (write_counts c.design c.results inside (marks t) chip m j)) o false) (only_write t j at)
      ∙ ap (λ b. (marks t).broken chip m || not b) h
      ∙ or-true ((marks t).broken chip m) in
      no (sym whole ∙ from_then_on IsBroken (suc t) now stays_broken (length (frame_slots c.results frame)) next))
