-- Offered to the crates above: an accepted case has the headline, and its marks are true.
use Rattle.std.proofs.Common.{ℕ}
use Rattle.design_core.specs.declared.values.Event.{Event}
use Rattle.design_core.specs.Valuation.{Valuation}
use Rattle.design_core.specs.Settled.{IsSettled}
use Rattle.design_core.specs.Event.{IsAfter}
use Rattle.emu_machine.specs.State.{State, present, frame_slots, state_in_frame}
use Rattle.emu_machine.specs.Mapped.{IsLoaded}
use Rattle.emu_machine.specs.Marks.{marks_at}
use Rattle.emu_machine.specs.Acceptance.{Case, IsAccepted}
use Rattle.emu_machine.specs.Headline.{EventFits, event_values}
use Rattle.emu_machine.specs.Law.{IsCase, AcceptedAgrees}
use Rattle.one_history.proofs.Alone.{one_history}
use Rattle.marks_law.specs.Slots.{StateTrue}
use Rattle.agreement_law.proofs.Accepted.{frame_fits, has_its_frame}
use Rattle.agreement_law.proofs.FrameEnd.{slots_keep, parts_fit}
use Rattle.agreement_law.proofs.Runs.{facts_of, frame_starts, slots_give_agreement}
use Rattle.agreement_law.specs.Agreement.{SlotsKeep, FramesSample}
use Rattle.slot_law.proofs.Together.{slot_keeps_marks}
use Rattle.accepted_law.specs.Frames.{AcceptedMarksAreTrue}
use Rattle.accepted_law.proofs.Sampled.{slot_sampled}
use Rattle.accepted_law.proofs.Told.{told_marks}

module _ (c : Case) (is : IsCase c) (accepted : IsAccepted c) where
  all_slots_keep : SlotsKeep c
  all_slots_keep k t =
      slot_keeps_marks c k t is (parts_fit c is accepted.inside accepted.rules) (frame_fits c accepted.inside accepted.rules k)

  -- the marks are true in each slot of a frame
  in_frame : (event : Event) (v w : Valuation) (x : State) → EventFits c event → IsSettled c.design v → IsAfter c.design v event.values w → IsLoaded c.design c.results v x
      → (t : ℕ)
      → StateTrue c event.group.place t v w
      (marks_at c.design c.results c.board.wires (accepted.inside event.group.place) (frame_slots c.results event.group.place) t)
      (state_in_frame c.results c.board.wires event x t)
  in_frame event v w x fits settled after loaded =
      slots_keep c event.group.place (accepted.inside event.group.place) v w event.values
      (facts_of c is accepted event v w fits settled after)
      (all_slots_keep event.group.place)
      (present event.values x)
      (frame_starts c is accepted event v w x fits settled after loaded)

  frames_sample : FramesSample c
  frames_sample event v w x fits settled after loaded t =
      slot_sampled c is accepted.inside accepted.rules event.group.place
      (has_its_frame c accepted.inside accepted.rules event.group.place fits.group fits.named)
      v w event.values
      (facts_of c is accepted event v w fits settled after)
      t
      (state_in_frame c.results c.board.wires event x t)
      (in_frame event v w x fits settled after loaded t)

pub accepted_agrees : AcceptedAgrees
accepted_agrees c is accepted =
    slots_give_agreement c is accepted (all_slots_keep c is accepted) (frames_sample c is accepted)
    (λ o events opening fits. one_history c.design o (event_values events) is.design is.ranked opening)

pub accepted_marks_are_true : AcceptedMarksAreTrue
accepted_marks_are_true c is accepted event v w x t fits settled after loaded =
    told_marks c event.group.place (frame_fits c accepted.inside accepted.rules event.group.place)
    (parts_fit c is accepted.inside accepted.rules)
    (accepted.inside event.group.place) v w event.values
    (facts_of c is accepted event v w fits settled after)
    t
    (state_in_frame c.results c.board.wires event x t)
    (in_frame c is accepted event v w x fits settled after loaded t)
