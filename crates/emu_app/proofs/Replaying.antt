-- What running recorded events on results comes to.
use Rattle.std.proofs.Common.{ℕ, zero, suc, ◌≡◌, ◌<◌, ◌≤◌, Bool, false, List, [], ◌∷◌, length, map, take, Option, Some, None, Result, Ok, Err, IfOk, slice_get, Contains, inr, refl, sym, ◌∙◌, ap, subst, arith}
use Rattle.std.proofs.lemmas.List.{take-map}
use Rattle.std.proofs.lemmas.Option.{slice_get-get_or, slice_get_within}
use Rattle.id_arena.specs.declared.wire.Wire.{Wire}
use Rattle.design_core.specs.declared.node.NodeId.{NodeId}
use Rattle.design_core.specs.declared.parts.Parts.{Parts}
use Rattle.design_core.specs.declared.values.Event.{Event}
use Rattle.design_core.specs.Dependency.{IsRanked}
use Rattle.design_core.specs.Design.{IsDesign, net_count, port_bits}
use Rattle.design_core.specs.Event.{IsHistory, HasOneHistory}
use Rattle.design_core.specs.Influence.{all_groups}
use Rattle.design_core.specs.Settled.{IsOpened, OpeningFits}
use Rattle.design_core.specs.Valuation.{SameValues, Valuation}
use Rattle.one_history.specs.Histories.{OneHistory}
use Rattle.emu_io.specs.declared.files.StoreFault.{StoreFault}
use Rattle.emu_io.specs.declared.files.StoreFault.TheVariants as store
use Rattle.emu_io.specs.Sink.{AppendsWhereTold}
use Rattle.emu_machine.specs.declared.schedule.Frame.{Frame}
use Rattle.emu_machine.specs.declared.place.Place.TheVariants as place
use Rattle.emu_machine.specs.declared.map.Spot.{Spot}
use Rattle.emu_machine.specs.declared.map.Subject.{Subject}
use Rattle.emu_machine.specs.declared.map.Subject.TheVariants.{Net, Up, Down, Take, Next, TakeWrite, Old, TakeRead}
use Rattle.emu_machine.specs.declared.rule.Rule.TheVariants.{A2, A4, A5, A7, A9}
use Rattle.emu_machine.specs.Acceptance.{Case, frame_differs}
use Rattle.emu_machine.specs.Building.{IsBuilt}
use Rattle.emu_machine.specs.Headline.{EventFits, EventsFit, event_values}
use Rattle.emu_machine.specs.Law.{IsCase}
use Rattle.emu_machine.specs.Results.{MapFits, Results}
use Rattle.emu_machine.specs.Mapped.{IsLoaded, IsValueOf, subject}
use Rattle.emu_machine.specs.Netlist.{chip_at}
use Rattle.emu_machine.specs.State.{State, after_frame, run_of}
use Rattle.cycle_sim.specs.Judged.{JudgedCanLoad, JudgedCanRun}
use Rattle.cycle_sim.specs.Standing.{CanRun}
use Rattle.cycle_sim.specs.Loading.{CanLoad, FreeAreZero, IsDesignNet}
use Rattle.settled_model.specs.declared.opening.Opening as opened
use Rattle.settled_model.specs.Opening.{stands_for}
use Rattle.settled_model.specs.Runs.{OpeningsFit}
use Rattle.domain_groups.specs.Answers as groups
use Rattle.domain_groups.specs.Events.{RecordedEventsFit}
use Rattle.domain_groups.specs.Groups.{InputGroups}
use Rattle.domain_groups.specs.Traces.{machine_trace, spots_of, BreaksOff}
use Rattle.event_replay.specs.Runs.{ReplayMeans as RunMeans}
use Rattle.trace_law.specs.Traces.{BrokenTraces, LoadedTraceIsOne, OpenedAreSame, OutputsAreMapped, TracesAgree}
use Rattle.trace_law.proofs.Kept.{kept_subject}
use Rattle.case_texts.specs.Cases.{DesignSays, TextsTellCasesApart}
use Rattle.case_texts.specs.What.{Texts}
use Rattle.case_texts.specs.declared.what.What.TheVariants.{Groups, Events}
use Rattle.case_texts.proofs.Readings.{one_groups}
use Rattle.emu_app.specs.declared.answer.Answer.{Answer}
use Rattle.emu_app.specs.declared.answer.Answer.TheVariants as answer
use Rattle.emu_app.specs.declared.recording.Recording.{Recording}
use Rattle.emu_app.specs.declared.replay.Replayed.{Replayed}
use Rattle.emu_app.specs.Answers.{Comes, ReplayMeans, Replays, TraceStops, WritesTrace}
use Rattle.emu_app.specs.Reading.{ReplayedSays, StandForOneReplay, TextsTellRecordingsApart, case_of}
use Rattle.emu_app.specs.Runs.{CanReplay, FitsDesign, IsMachineTrace, IsRun, IsUnfit, KeepsNets, opening_of}
use Rattle.emu_app.proofs.Cases.{stands_alone}
use Rattle.emu_app.proofs.Judging.{unfit}

-- ## Lists

-- what is contained stands at a place
placed : {X : Type 0} (xs : List X) (x : X) (h : Contains xs x) → slice_get xs h.0 ≡ Some x
placed xs x h = slice_get-get_or xs h.0 x h.1 ∙ ap Some h.2

-- what holds of a value gives what else holds of it
pub if_ok : {X E : Type 0} (P Q : X → Type 0) (result : Result X E) → ((x : X) → P x → Q x) → IfOk result P → IfOk result Q
if_ok P Q (Ok x) gives holds = gives x holds
if_ok P Q (Err e) gives holds = tt

-- ## What a recording gives

-- the events that texts tell fit the case that they stand for
pub events_fit : groups.EachTextHasOneAnswer → RecordedEventsFit → (top : List ℕ) (texts : Texts) (p : Parts) (v : InputGroups) (r : Replayed) → DesignSays top texts p v → ReplayedSays texts p r
    → EventsFit (case_of p v r.plan) r.recording.events
events_fit grouped fit top texts p v r first says =
    let same : says.recorded.groups ≡ v = one_groups grouped p (texts Groups) says.recorded.groups v says.recorded.says_groups first.groups in
    fit (case_of p v r.plan) says.recorded.groups (texts Events) r.recording.events (ap (λ w. w.groups) same) (ap (λ w. w.inputs) says.recorded.says_groups.are) says.recorded.events

-- ## What the rules give

-- no node is in an influence: the rules A1 to A9 do not ask
abbrev pub none_inside : ℕ → NodeId → Bool
none_inside k n = false

-- the group of an event has a frame
pub frame_there : (c : Case) (events : List Event) → CanReplay c → EventsFit c events → (event : Event) → Contains events event → event.group.place < length c.results.schedule.frames
frame_there c events fit fits event has = go (slice_get c.results.schedule.frames event.group.place) refl
  where
    of_group : EventFits c event
    of_group = fits has.0 event (placed events event has)

    go : (o : Option Frame) → slice_get c.results.schedule.frames event.group.place ≡ o → event.group.place < length c.results.schedule.frames
    go (Some f) e = slice_get_within c.results.schedule.frames event.group.place f e
    go None e =
        absurd (fit none_inside A4 (omega arith) (place.Frame event.group.place)
        (ap (λ o. frame_differs c o (slice_get (all_groups c.design c.groups) event.group.place)) e ∙ ap (frame_differs c None) of_group.named))

-- the machine can run what the rules A1 to A9 let run
pub can_run : JudgedCanRun → (c : Case) → IsCase c → CanReplay c → CanRun c.results c.board.wires (net_count c.design)
can_run law c is fit = law c none_inside is.design is.groups (fit none_inside A2 (omega arith)) (fit none_inside A5 (omega arith))

pub can_load : JudgedCanLoad → (c : Case) → CanReplay c → CanLoad c.design c.results
can_load law c fit = law c none_inside (fit none_inside A7 (omega arith))

-- what is kept stands for nets of the design
pub keeps_nets : (c : Case) → IsCase c → CanReplay c → KeepsNets c.design c.results
keeps_nets c is fit = kept_subject c none_inside is (fit none_inside A7 (omega arith))

-- the map names as many nets as the design has output bits
pub as_many : OutputsAreMapped → (c : Case) → CanReplay c → length c.results.map.outputs ≡ length (port_bits c.design.outputs)
as_many law c fit = law c none_inside (fit none_inside A9 (omega arith))

-- the map's outputs are nets that are there
pub spots_there : (results : Results) → MapFits results → (spot : Spot) → Contains results.map.outputs spot → spot.net.place < (chip_at results.net spot.chip.place).nets
spots_there results mapped spot has = mapped.outputs has.0 spot (placed results.map.outputs spot has)

-- ## Loading

-- what is loaded from one of two valuations that are the same is loaded from the other
loaded_same : (p : Parts) (results : Results) (v w : Valuation) (x : State) → KeepsNets p results → SameValues p v w → IsLoaded p results w x → IsLoaded p results v x
loaded_same p results v w x keeps same loaded =
    record {
      state = record {
        held = λ c n kept. value (subject results c n) (keeps c n kept) (x.held c n) (loaded.state.held c n kept);
        words = λ c m of a is there. loaded.state.words c m of a is there ∙ sym (same.words of a there);
      };
      outside = λ n low input. loaded.outside n low input ∙ sym (same.nets n low);
    }
  where
    value : (o : Option Subject) → IsDesignNet p o → (b : Bool) → IsValueOf w o b → IsValueOf v o b
    value (Some (Net n)) low b is = is ∙ sym (same.nets n.place low)
    value (Some (Up n)) none b is = absurd none
    value (Some (Down n)) none b is = absurd none
    value (Some (Take e)) none b is = absurd none
    value (Some (Next e)) none b is = absurd none
    value (Some (TakeWrite m k)) none b is = absurd none
    value (Some (Old m k i)) none b is = absurd none
    value (Some (TakeRead m k)) none b is = absurd none
    value None none b is = absurd none

-- what is loaded from an opened valuation is loaded from each of the same opening
pub opened_loaded : OpenedAreSame → (p : Parts) (o : opened.Opening) (results : Results) (w : Valuation) (x : State)
    → IsDesign p → IsRanked p → OpeningFits p (stands_for o) → KeepsNets p results
    → IsOpened p (stands_for o) w → IsLoaded p results w x → (v : Valuation) → IsOpened p (stands_for o) v → IsLoaded p results v x
opened_loaded law p o results w x design ranked fits keeps opens loaded v is =
    loaded_same p results v w x keeps (law p (stands_for o) v w design ranked fits is opens) loaded

-- ## The trace of the machine

module _ (c : Case) (r : Recording) (x : State) (is : IsCase c) (built : IsBuilt c.results.net) (fit : CanReplay c) where
  -- all machines that are loaded from one valuation, with 0 in all that is free, have one trace
  same_trace : LoadedTraceIsOne → (v : Valuation) (y : State)
      → IsLoaded c.design c.results v x → FreeAreZero c.results x → IsLoaded c.design c.results v y → FreeAreZero c.results y
      → machine_trace c.design c.results (run_of c.results c.board.wires x r.events) ≡ machine_trace c.design c.results (run_of c.results c.board.wires y r.events)
  same_trace law v y =
      law c none_inside r.events v x y is built (fit none_inside A2 (omega arith)) (fit none_inside A5 (omega arith)) (fit none_inside A7 (omega arith))

  -- the trace of a machine that is loaded from the opened valuation
  run_trace : TracesAgree → LoadedTraceIsOne → OpeningFits c.design (opening_of r) → EventsFit c r.events → HasOneHistory c.design (opening_of r) (event_values r.events)
      → ((v : Valuation) → IsOpened c.design (opening_of r) v → IsLoaded c.design c.results v x) → FreeAreZero c.results x
      → IsMachineTrace c r (machine_trace c.design c.results (run_of c.results c.board.wires x r.events))
  run_trace agree single opening events h loaded free = go h.history h.is_one
    where
      go : (history : List Valuation) → IsHistory c.design (opening_of r) (event_values r.events) history
          → IsMachineTrace c r (machine_trace c.design c.results (run_of c.results c.board.wires x r.events))
      go [] is = absurd is
      go (v ∷ vs) history =
          record {
            first = v;
            rest = vs;
            is_history = history;
            loaded = x;
            is_loaded = loaded v history.0;
            free = free;
            shown = λ w y opened other zeros. same_trace single w y (loaded w opened) free other zeros;
            agrees = λ accepted. agree c (opening_of r) r.events v vs x is accepted opening events history (loaded v history.0);
          }

-- the trace of a machine that is loaded from the values of the settled valuation
pub loaded_trace : TracesAgree → LoadedTraceIsOne → OneHistory → OpeningsFit → (c : Case) (r : Recording) (x y : State)
    → IsCase c → IsBuilt c.results.net → CanReplay c → FitsDesign c.design r → EventsFit c r.events → x ≡ y
    → ((v : Valuation) → IsOpened c.design (opening_of r) v → IsLoaded c.design c.results v y) → FreeAreZero c.results y
    → IsMachineTrace c r (machine_trace c.design c.results (run_of c.results c.board.wires x r.events))
loaded_trace agree single one opens c r x y is built fit bits events same loaded free =
    let fits : OpeningFits c.design (opening_of r) = opens c.design r.opening bits.opening in
    run_trace c r x is built fit agree single fits events
    (one c.design (opening_of r) (event_values r.events) is.design is.ranked fits)
    (subst (λ (z : State). (v : Valuation) → IsOpened c.design (opening_of r) v → IsLoaded c.design c.results v z) (sym same) loaded)
    (subst (λ (z : State). FreeAreZero c.results z) (sym same) free)

-- the states after the first events are the first states
first_run : (results : Results) (wires : List Wire) (x : State) (events : List Event) (count : ℕ) → run_of results wires x (take count events) ≡ take count (run_of results wires x events)
first_run results wires x events zero = refl
first_run results wires x [] (suc count) = refl
first_run results wires x (e ∷ es) (suc count) = ap (λ xs. after_frame results wires e x ∷ xs) (first_run results wires (after_frame results wires e x) es count)

module _ (R : List ℕ → Type 0) (p : Parts) (results : Results) (wires : List Wire) (events : List Event) (x y : State) (old new : Option (List ℕ)) (before after : ℕ) (is : R (machine_trace p results (run_of results wires x events))) where
  -- all events are done, and the trace is written
  pub run_written : (X : Type 0) (done : X) → RunMeans p results wires events x y old new before after (Ok done) → WritesTrace R old new
  run_written X done means = record { trace = machine_trace p results (run_of results wires x events); means = is; text = means.1 }

  stops : BrokenTraces → (count : ℕ) → BreaksOff p.outputs (map (spots_of results) (run_of results wires x (take count events))) old new → TraceStops R old new
  stops law count breaks =
      let shown : List (List Bool) = map (spots_of results) (run_of results wires x events) in
      let first : map (spots_of results) (run_of results wires x (take count events)) ≡ take count shown =
      ap (map (spots_of results)) (first_run results wires x events count) ∙ sym (take-map (spots_of results) count (run_of results wires x events)) in
      let cut : (bytes : ℕ) × (bytes ≤ length (machine_trace p results (run_of results wires x events))) × AppendsWhereTold old (take bytes (machine_trace p results (run_of results wires x events))) new =
      law p.outputs shown count old new (subst (λ lines. BreaksOff p.outputs lines old new) first breaks) in
      record { trace = machine_trace p results (run_of results wires x events); means = is; count = cut.0; some = cut.1; text = cut.2 }

  -- a fault in the line of an event breaks the trace off
  pub run_stopped : (X : Type 0) (M : Answer → Type 0) (fault : StoreFault) → BrokenTraces
      → RunMeans {X = X} p results wires events x y old new before after (Err fault) → Comes M R old new before after (Err fault)
  run_stopped X M store.Failed law means = (means.0, stops law means.1.0 means.1.2)
  run_stopped X M store.NoMemory law means = inr (stops law means.1.0 means.1.2)

-- ## The texts

-- what the texts say is one case and one recording
pub one_replay : TextsTellCasesApart → TextsTellRecordingsApart → (top : List ℕ) (texts : Texts) (p : Parts) (v : InputGroups) (r : Replayed) → DesignSays top texts p v → ReplayedSays texts p r
    → StandForOneReplay top texts (case_of p v r.plan) r.recording
one_replay cases recordings top texts p v r first says =
    record {
      stand = stands_alone cases top texts p v r.plan first says.plan;
      recorded = says.recorded;
      one = λ other also. recordings texts p r.recording other says.recorded also;
    }

-- the answer and the trace of a case and a recording are those of the texts that stand for them
pub unfit_means : (top : List ℕ) (texts : Texts) (c : Case) (r : Recording) → StandForOneReplay top texts c r → (found : Answer) → IsUnfit c found → ReplayMeans top texts found
unfit_means top texts c r stand (answer.Rejected rule at) verdict =
    record { judged = c; recording = r; stand = stand; first = verdict; rejected = unfit c rule at verdict }
unfit_means top texts c r stand answer.Usage none = absurd none
unfit_means top texts c r stand (answer.Accepted results) none = absurd none
unfit_means top texts c r stand (answer.TooLarge what) none = absurd none
unfit_means top texts c r stand (answer.Refused why) none = absurd none
unfit_means top texts c r stand (answer.ReadFault name) none = absurd none

pub run_means : (top : List ℕ) (texts : Texts) (c : Case) (r : Recording) → StandForOneReplay top texts c r → (trace : List ℕ) → IsRun c r trace → Replays top texts trace
run_means top texts c r stand trace run = record { judged = c; recording = r; stand = stand; fit = run.0; is = run.1 }
