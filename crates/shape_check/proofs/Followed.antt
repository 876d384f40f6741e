-- A11: what a frame that is followed shows, and the frames that are there.
use Rattle.std.proofs.Common.{◌≡◌, ◌<◌, ◌≤◌, ℕ, Bool, true, false, List, [], ◌∷◌, length, None, Some, refl, sym, subst, ap, ◌∙◌, arith}
use Rattle.std.specs.Prelude.{◌&&◌, is_some, slice_get, IsTrue}
use Rattle.std.proofs.lemmas.Option.{slice_get_past, slice_get-get_or}
use Rattle.facts.proofs.Places.{at_contains}
use Rattle.facts.proofs.Tests.{must, no}
use Rattle.id_arena.specs.declared.wire.Wire.{Wire}
use Rattle.design_core.specs.declared.node.NodeId.{NodeId}
use Rattle.design_core.specs.declared.parts.Parts.{Parts}
use Rattle.emu_machine.specs.declared.place.Place.{Place}
use Rattle.emu_machine.specs.declared.place.Place.TheVariants as place
use Rattle.emu_machine.specs.declared.schedule.Action.{Action}
use Rattle.emu_machine.specs.declared.schedule.Action.TheVariants as action
use Rattle.emu_machine.specs.Results.{Results}
use Rattle.emu_machine.specs.Netlist.{chip_at}
use Rattle.emu_machine.specs.State.{actions_of, frame_slots}
use Rattle.emu_machine.specs.Marks.{marks_at}
use Rattle.emu_machine.specs.Acceptance.{Case, FailsA11, FailsA5, action_fits, case_action_fits, fails_test, has_frame, is_hold, place_key, register_of}
use Rattle.use_check.specs.Least.{Begins, IsLeastUnder, Never}
use Rattle.use_check.proofs.Walk.{Longer}
use Rattle.frame_marks.specs.Frames.{FrameState, FrameStands, Shows}
use Rattle.shape_check.specs.Influences.{FrameSpread, Spread, inside_of}
use Rattle.shape_check.specs.Ends.{AreEndMarks, AreMarksOf}

-- an `input` fits, whatever is an input of the group
input_fits : (holds is_input : Bool) → (holds && is_input) ≡ true → (holds && true) ≡ true
input_fits true is_input h = refl
input_fits false is_input h = no h

loosely : (c : Case) (k t : ℕ) (a : Action) → case_action_fits c k t a ≡ true
    → action_fits c.results.net c.board.wires (λ n. true) (length (frame_slots c.results k)) t a ≡ true
loosely c k t (action.Input on register net) fits = input_fits (is_hold (register_of c.results.net on.place register.place)) _ fits
loosely c k t (action.Load on register) fits = fits
loosely c k t (action.Send wire net register) fits = fits
loosely c k t (action.Write on mem port) fits = fits
loosely c k t (action.Read on mem port) fits = fits

-- where A5 holds, the actions of each frame stand
pub frame_stands : (c : Case) → Never (FailsA5 c) → (k : ℕ) → FrameStands c.results c.board.wires (frame_slots c.results k)
frame_stands c fitting k t a has =
    let at : (j : ℕ) × (slice_get (actions_of (frame_slots c.results k) t) j ≡ Some a) = at_contains (actions_of (frame_slots c.results k) t) a has in
    loosely c k t a
    (must (case_action_fits c k t a) (λ wrong.
    fitting (place.Action k t at.0) (subst (fails_test (case_action_fits c k t)) (sym at.1) wrong)))

-- the same of the tables that are followed
pub stands_there : (c : Case) → Never (FailsA5 c) → (f : FrameState) → AreMarksOf c f → (k : ℕ) → FrameStands f.results f.wires (frame_slots f.results k)
stands_there c fitting f are k =
    subst (λ (r : Results). FrameStands r f.wires (frame_slots r k)) (sym are.results)
    (subst (λ (wires : List Wire). FrameStands c.results wires (frame_slots c.results k)) (sym are.wires) (frame_stands c fitting k))

-- a frame that is there
pub frame_there : (c : Case) (k : ℕ) → k < length c.results.schedule.frames → has_frame c k ≡ true
frame_there c k low = ap is_some (slice_get-get_or c.results.schedule.frames k (record { group = []; slots = [] }) low)

-- tables that show the marks at the end of a frame, which they had before
pub end_shown : (c : Case) (spread : Spread) (k : ℕ) (i : FrameSpread) (old new : FrameState) → i ≡ record { spread = spread; frame = k } → AreMarksOf c old → new.design ≡ old.design → new.results ≡ old.results
    → k < length c.results.schedule.frames
    → Shows (inside_of i.spread i.frame) (marks_at old.design old.results old.wires (inside_of i.spread i.frame) (frame_slots old.results k) (length (frame_slots old.results k))) new
    → AreEndMarks (record { judged = c; spread = spread; frame = k }) new
end_shown c spread k i old new one are design results low shows = record {
  design = design ∙ are.design;
  results = results ∙ are.results;
  there = frame_there c k low;
  shows =
      subst (λ (p : Parts). Shows (inside_of spread k) (marks_at p c.results c.board.wires (inside_of spread k) (frame_slots c.results k) (length (frame_slots c.results k))) new) are.design
      (subst (λ (r : Results). Shows (inside_of spread k) (marks_at old.design r c.board.wires (inside_of spread k) (frame_slots r k) (length (frame_slots r k))) new) are.results
      (subst (λ (wires : List Wire). Shows (inside_of spread k) (marks_at old.design old.results wires (inside_of spread k) (frame_slots old.results k) (length (frame_slots old.results k))) new) are.wires
      (subst (λ (x : FrameSpread). Shows (inside_of x.spread x.frame) (marks_at old.design old.results old.wires (inside_of x.spread x.frame) (frame_slots old.results k) (length (frame_slots old.results k))) new) one shows)));
}

-- where no frame is, nothing ends badly
frameless : (there : Bool) (rest : Bool) → there ≡ false → IsTrue (there && rest) → ⊥
frameless true rest e f = no (sym e)
frameless false rest e f = no f

module _ (c : Case) (inside : ℕ → NodeId → Bool) where
  pub some_long : Longer (FailsA11 c inside) 0
  some_long (place.EndRegister a b d) f = omega arith
  some_long (place.EndMemory a b d) f = omega arith
  some_long (place.EndRead a b d g) f = omega arith
  some_long (place.Gate a b) f = absurd f
  some_long (place.Register a b) f = absurd f
  some_long (place.Memory a b) f = absurd f
  some_long (place.Weight a b) f = absurd f
  some_long (place.Chips m) f = absurd f
  some_long (place.Frame a) f = absurd f
  some_long (place.Action a b d) f = absurd f
  some_long (place.Again a b d g) f = absurd f
  some_long (place.Input a) f = absurd f
  some_long (place.Element a) f = absurd f
  some_long (place.Output a) f = absurd f

  pub past_frames : (k : ℕ) → length c.results.schedule.frames ≤ k → IsLeastUnder (FailsA11 c inside) (k ∷ []) None
  past_frames k past at b f = go at b f
    where
      none : (j : ℕ) → k ≡ j → has_frame c j ≡ false
      none j same = ap is_some (subst (λ (i : ℕ). slice_get c.results.schedule.frames i ≡ None) same (slice_get_past c.results.schedule.frames k past))

      go : (at : Place) → Begins (k ∷ []) (place_key at) → FailsA11 c inside at → ⊥
      go (place.EndRegister j chip r) b f = frameless (has_frame c j) _ (none j b.0) f
      go (place.EndMemory j chip m) b f = frameless (has_frame c j && is_some (slice_get (chip_at c.results.net chip.place).memories m.place)) _ (ap (λ (x : Bool). x && is_some (slice_get (chip_at c.results.net chip.place).memories m.place)) (none j b.0)) f
      go (place.EndRead j chip m p) b f = frameless (has_frame c j) _ (none j b.0) f
      go other b f = absurd f
