-- Offered to the crates above: where slots keep true marks true and frames take sampled data, a machine runs
-- together with a history.
use Rattle.std.proofs.Common.{ℕ, suc, List, [], ◌∷◌, length, refl}
use Rattle.design_core.specs.declared.values.Event.{Event}
use Rattle.design_core.specs.Valuation.{Valuation}
use Rattle.design_core.specs.Settled.{IsSettled}
use Rattle.design_core.specs.Event.{IsAfter, Follow}
use Rattle.emu_machine.specs.State.{State, present, frame_slots, after_frame}
use Rattle.emu_machine.specs.Mapped.{IsLoaded}
use Rattle.emu_machine.specs.Marks.{start_marks}
use Rattle.emu_machine.specs.Acceptance.{Case, IsAccepted}
use Rattle.emu_machine.specs.Headline.{EventFits, EventsFit, event_values, RunsTogether, Headline}
use Rattle.emu_machine.specs.Law.{IsCase}
use Rattle.marks_law.specs.Facts.{EventFacts}
use Rattle.marks_law.specs.Slots.{StateTrue}
use Rattle.agreement_law.specs.Agreement.{SlotsKeep, FramesSample, HistoriesAreOne, SlotsGiveAgreement}
use Rattle.history_law.proofs.Following.{events_keep_settled}
use Rattle.agreement_law.proofs.EventTruth.{event_facts}
use Rattle.agreement_law.proofs.FrameStart.{start_true}
use Rattle.agreement_law.proofs.FrameEnd.{slots_keep, end_loaded}
use Rattle.agreement_law.proofs.Accepted.{frame_fits, has_its_frame}
use Rattle.agreement_law.proofs.Shown.{agrees}
use Rattle.agreement_law.proofs.OneUse.{wire_once}

module _ (c : Case) (is : IsCase c) (accepted : IsAccepted c) where
  pub facts_of : (event : Event) (v w : Valuation) → EventFits c event → IsSettled c.design v → IsAfter c.design v event.values w → EventFacts c.design (accepted.inside event.group.place) v event.values w
  facts_of event v w fits settled after =
      event_facts c.design fits.group (accepted.inside event.group.place) (accepted.influences event.group.place fits.group fits.named) v event.values w is.design is.ranked settled after fits.inputs

  pub frame_starts : (event : Event) (v w : Valuation) (x : State) → EventFits c event → IsSettled c.design v → IsAfter c.design v event.values w → IsLoaded c.design c.results v x
      → StateTrue c event.group.place 0 v w (start_marks c.design c.results (accepted.inside event.group.place)) (present event.values x)
  frame_starts event v w x fits settled after loaded =
      start_true c is.design event.group.place (accepted.inside event.group.place) v w event.values (facts_of event v w fits settled after) x loaded

  module _ (keep : SlotsKeep c) where
    frame_loads : (event : Event) (v w : Valuation) (x : State) → EventFits c event → IsSettled c.design v → IsAfter c.design v event.values w → IsLoaded c.design c.results v x
        → IsLoaded c.design c.results w (after_frame c.results c.board.wires event x)
    frame_loads event v w x fits settled after loaded =
        let k : ℕ = event.group.place in
        let facts = facts_of event v w fits settled after in
        end_loaded c is accepted.inside accepted.rules k (has_its_frame c accepted.inside accepted.rules k fits.group fits.named) v w event.values facts
        (after_frame c.results c.board.wires event x)
        (slots_keep c k (accepted.inside k) v w event.values facts (keep k) (present event.values x) (frame_starts event v w x fits settled after loaded) (length (frame_slots c.results k)))

    module _ (sample : FramesSample c) where
      runs : (events : List Event) (v : Valuation) (vs : List Valuation) (x : State) → EventsFit c events → IsSettled c.design v → Follow c.design v (event_values events) vs → IsLoaded c.design c.results v x
          → RunsTogether c v vs x events
      runs [] v [] x fits settled follow loaded = agrees c is accepted.inside accepted.rules v settled x loaded.state
      runs [] v (w ∷ ws) x fits settled follow loaded = follow
      runs (event ∷ events) v [] x fits settled follow loaded = follow
      runs (event ∷ events) v (w ∷ ws) x fits settled follow loaded = (
        agrees c is accepted.inside accepted.rules v settled x loaded.state,
        sample event v w x (fits 0 event refl) settled follow.0 loaded,
        runs events w ws (after_frame c.results c.board.wires event x) (λ k. fits (suc k))
            (events_keep_settled c.design v event.values w is.design settled follow.0)
            follow.1
            (frame_loads event v w x (fits 0 event refl) settled follow.0 loaded),
      )

      headline : HistoriesAreOne c → Headline c
      headline one =
          record {
            one_history = one;
            together = λ o events v vs x opening fits history loaded. runs events v vs x fits history.0.settled history.1 loaded;
            one_use = λ k t w. wire_once c k (frame_fits c accepted.inside accepted.rules k) t w;
          }

pub slots_give_agreement : SlotsGiveAgreement
slots_give_agreement c is accepted keep sample one = headline c is accepted keep sample one
