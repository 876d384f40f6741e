-- What `settle` prints: the trace of the one history, whole or as far as it came.
use Rattle.std.proofs.Common.{ℕ, ◌≡◌, List, Bool, length, take, drop, map, Option, Ok, Err, inr, refl, subst}
use Rattle.std.proofs.Math.Seq.{take-length}
use Rattle.design_core.specs.declared.parts.Parts.{Parts}
use Rattle.design_core.specs.Dependency.{IsRanked}
use Rattle.design_core.specs.Design.{IsDesign}
use Rattle.design_core.specs.Event.{Follow, HasOneHistory}
use Rattle.design_core.specs.Settled.{IsOpened, OpeningFits}
use Rattle.design_core.specs.Valuation.{Valuation}
use Rattle.emu_io.specs.declared.files.StoreFault.{StoreFault}
use Rattle.emu_io.specs.declared.files.StoreFault.TheVariants as store
use Rattle.emu_machine.specs.Headline.{event_values}
use Rattle.domain_groups.specs.Groups.{InputGroups}
use Rattle.domain_groups.specs.Traces.{BreaksOff, outputs_of, settled_trace}
use Rattle.event_replay.specs.Runs.{HaveSettled, SettleMeans}
use Rattle.one_history.specs.Histories.{OneHistory}
use Rattle.settled_model.specs.Runs.{OpeningsFit}
use Rattle.trace_law.specs.Traces.{BrokenTraces, SettledTraceIsOne, SettledTraces}
use Rattle.emu_app.specs.declared.answer.Answer.{Answer}
use Rattle.emu_app.specs.declared.recording.Recording.{Recording}
use Rattle.emu_app.specs.Answers.{Comes, Settles, TraceStops, WritesTrace}
use Rattle.case_texts.specs.What.{Texts}
use Rattle.emu_app.specs.Reading.{StandForSettle, TextsTellRunsApart}
use Rattle.case_texts.specs.Cases.{DesignSays}
use Rattle.emu_app.specs.Runs.{FitsDesign, IsHistoryTrace, NoAnswer, RecordingSays, opening_of}

-- what is known once the original is opened
pub record HasOpened (p : Parts) (r : Recording) (v : Valuation) : Type 0 where
  pub sound : IsDesign p
  pub ranked : IsRanked p
  pub fits : OpeningFits p (opening_of r)
  pub one : HasOneHistory p (opening_of r) (event_values r.events)
  pub opened : IsOpened p (opening_of r) v

pub has_opened : OneHistory → OpeningsFit → (p q : Parts) (r : Recording) (v : Valuation)
    → q ≡ p → IsDesign q → IsRanked p → FitsDesign p r → IsOpened p (opening_of r) v → HasOpened p r v
has_opened history fit p q r v same sound ranked bits opened =
    let stands : IsDesign p = subst IsDesign same sound in
    let fits : OpeningFits p (opening_of r) = fit p r.opening bits.opening in
    record {
      sound = stands;
      ranked = ranked;
      fits = fits;
      one = history p (opening_of r) (event_values r.events) stands ranked fits;
      opened = opened;
    }

module _ (p : Parts) (r : Recording) (v : Valuation) (begun : HasOpened p r v) where
  -- a run over all events has written the trace of the one history
  pub settled_whole : SettledTraceIsOne → (now : Valuation) (old new : Option (List ℕ)) (before after : ℕ) (done : Unit {0}) → SettleMeans p r.events v now old new before after (Ok done) → WritesTrace (IsHistoryTrace p r) old new
  settled_whole law now old new before after done means =
      let all : take (length r.events) r.events ≡ r.events = take-length r.events in
      let follow : Follow p v (event_values r.events) means.0 = subst (λ events. Follow p v (event_values events) means.0) all means.1.follow in
      record {
        trace = settled_trace p means.0;
        means = record { sound = begun.sound; one = begun.one; shown = law p (opening_of r) r.events v means.0 begun.one begun.sound begun.opened follow };
        text = means.2;
      }

  -- a run that breaks off has written some first bytes of that trace
  stops : SettledTraces → BrokenTraces → (count : ℕ) (vs : List Valuation) (now : Valuation) (old new : Option (List ℕ)) → HaveSettled p v r.events count vs now → BreaksOff p.outputs (map (outputs_of p) vs) old new → TraceStops (IsHistoryTrace p r) old new
  stops law broken count vs now old new have breaks =
      let shown : List (List Bool) = map (outputs_of p) (drop 1 begun.one.history) in
      let same : map (outputs_of p) vs ≡ take count shown = law p (opening_of r) r.events count v vs begun.one begun.sound begun.ranked begun.fits begun.opened have.within have.follow in
      let bytes : _ = broken p.outputs shown count old new (subst (λ (lines : List (List Bool)). BreaksOff p.outputs lines old new) same breaks) in
      record {
        trace = settled_trace p (drop 1 begun.one.history);
        means = record { sound = begun.sound; one = begun.one; shown = refl };
        count = bytes.0;
        some = bytes.1;
        text = bytes.2;
      }

  pub settled_broken : SettledTraces → BrokenTraces → (now : Valuation) (old new : Option (List ℕ)) (before after : ℕ) (fault : StoreFault) → SettleMeans {X = Unit {0}} p r.events v now old new before after (Err fault) → Comes NoAnswer (IsHistoryTrace p r) old new before after (Err fault)
  settled_broken law broken now old new before after store.Failed means =
      (means.0, stops law broken means.1.0 means.1.1 now old new means.1.2 means.1.3)
  settled_broken law broken now old new before after store.NoMemory means =
      inr (stops law broken means.1.0 means.1.1 now old new means.1.2 means.1.3)

-- texts that say a design and a recording of it have the trace of its history
pub settles : TextsTellRunsApart → (top : List ℕ) (texts : Texts) (p : Parts) (v : InputGroups) (r : Recording) → DesignSays top texts p v → RecordingSays texts p r → (trace : List ℕ) → IsHistoryTrace p r trace → Settles top texts trace
settles law top texts p v r first recorded trace is =
    let stand : StandForSettle top texts p r = record { groups = v; first = first; recorded = recorded } in
    record {
      design = p;
      recording = r;
      stand = record { stand = stand; one = λ q other stands. law top texts p q r other stand stands };
      is = is;
    }

-- a run that comes to no answer comes to none that is wrong
pub no_answer : (M : Answer → Type 0) (found : Answer) → NoAnswer found → M found
no_answer M found none = absurd none
