-- A run of one event more, and what that event adds to the trace of the machine.
use Rattle.std.proofs.Common.{◌≡◌, ◌<◌, ◌≤◌, ◌+◌, ℕ, suc, Bool, List, [], ◌∷◌, ◌++◌, take, map, length, refl, sym, ap, subst, ◌∙◌, arith}
use Rattle.std.specs.Prelude.{Option, Some, Result, Ok, Err, slice_get}
use Rattle.std.specs.Result.{IsErr, IsErrAnd}
use Rattle.std.proofs.lemmas.List.{take_all, length-take-le, length-map, map-append}
use Rattle.std.proofs.lemmas.Option.{slice_get_within}
use Rattle.id_arena.specs.declared.wire.Wire.{Wire}
use Rattle.design_core.specs.declared.parts.Parts.{Parts}
use Rattle.design_core.specs.declared.parts.Port.{Port}
use Rattle.design_core.specs.declared.values.Event.{Event}
use Rattle.emu_io.specs.declared.files.StoreFault.{StoreFault}
use Rattle.emu_io.specs.Sink.{AppendsWhereTold, PutMeans}
use Rattle.emu_machine.specs.Results.{Results}
use Rattle.emu_machine.specs.State.{State, after_frame, run_of}
use Rattle.settled_model.specs.Runs.{last_of}
use Rattle.domain_groups.specs.Traces.{spots_of, machine_trace, BreaksOff, trace_line_of, trace_of}
use Rattle.event_replay.specs.Runs.{Leaves, ReplayMeans}
use Rattle.event_replay.proofs.TraceGrowth.{appends_nothing, last_more, line_broken, line_put, take_next}

-- ## Runs

module _ (r : Results) (wires : List Wire) where
  run_pushed : (x : State) (events : List Event) (event : Event)
      → run_of r wires x (events ++ event ∷ []) ≡ run_of r wires x events ++ after_frame r wires event (last_of x (run_of r wires x events)) ∷ []
  run_pushed x [] event = refl
  run_pushed x (e ∷ es) event = ap (λ xs. after_frame r wires e x ∷ xs) (run_pushed (after_frame r wires e x) es event)

  length-run : (x : State) (events : List Event) → length (run_of r wires x events) ≡ length events
  length-run x [] = refl
  length-run x (e ∷ es) = ap suc (length-run (after_frame r wires e x) es)

-- an event is run over the same wires
pub stepped : (r : Results) (now wires : List Wire) (event : Event) (m y : State) → now ≡ wires → y ≡ after_frame r now event m → y ≡ after_frame r wires event m
stepped r now wires event m y same step = step ∙ ap (λ (some : List Wire). after_frame r some event m) same

-- ## A run of one event more

module _ (p : Parts) (r : Results) (wires : List Wire) (events : List Event) (x : State) where
  abbrev pub ran : ℕ → List State
  ran k = run_of r wires x (take k events)

  -- before any event nothing is run and nothing is written
  pub none_ran : (old : Option (List ℕ)) → AppendsWhereTold old (machine_trace p r (ran 0)) old
  none_ran old = appends_nothing old old refl

  -- the event with this number, its state, and what the sink then has; `m` is the state before it
  module _ (k : ℕ) (event : Event) (at : slice_get events k ≡ Some event) (m y : State) (stood : m ≡ last_of x (ran k)) (step : y ≡ after_frame r wires event m) where
    ran_more : ran (k + 1) ≡ ran k ++ y ∷ []
    ran_more =
        ap (run_of r wires x) (take_next events k event at)
        ∙ run_pushed r wires x (take k events) event
        ∙ ap (λ z. ran k ++ z ∷ []) (sym (step ∙ ap (after_frame r wires event) stood))

    pub stands_after : y ≡ last_of x (ran (k + 1))
    stands_after = sym (ap (last_of x) ran_more ∙ last_more x (ran k) y)

    within : k + 1 ≤ length events
    within = let low : k < length events = slice_get_within events k event at in omega arith

    abbrev shown_before : List (List Bool)
    shown_before = map (spots_of r) (ran k)

    shown_more : map (spots_of r) (ran (k + 1)) ≡ shown_before ++ spots_of r y ∷ []
    shown_more = ap (map (spots_of r)) ran_more ∙ map-append (spots_of r) (ran k) (y ∷ [])

    count_before : length shown_before ≡ k
    count_before =
        length-map (ran k) (spots_of r)
        ∙ length-run r wires x (take k events)
        ∙ length-take-le k events (let low : k < length events = slice_get_within events k event at in omega arith)

    -- the line of the event, by what stands before it
    line_is : (outputs : List Port) → outputs ≡ p.outputs → trace_line_of (k + 1) outputs (spots_of r y) ≡ trace_line_of (length shown_before + 1) p.outputs (spots_of r y)
    line_is outputs same =
        ap (λ ports. trace_line_of (k + 1) ports (spots_of r y)) same
        ∙ ap (λ n. trace_line_of (n + 1) p.outputs (spots_of r y)) (sym count_before)

    -- the line of the event makes the trace of one event more
    pub written_more : (outputs : List Port) (old mid new : Option (List ℕ)) → outputs ≡ p.outputs
        → AppendsWhereTold old (machine_trace p r (ran k)) mid
        → AppendsWhereTold mid (trace_line_of (k + 1) outputs (spots_of r y)) new
        → AppendsWhereTold old (machine_trace p r (ran (k + 1))) new
    written_more outputs old mid new same before line =
        subst (λ shown. AppendsWhereTold old (trace_of p.outputs shown) new) (sym shown_more)
        (line_put p.outputs shown_before (spots_of r y) old mid new before
        (subst (λ text. AppendsWhereTold mid text new) (line_is outputs same) line))

    -- after a fault in the line of the event
    pub replay_broke_off : {X : Type 0} (outputs : List Port) (old mid new : Option (List ℕ)) (before since after : ℕ) (fault : StoreFault)
        (result : Result X StoreFault) → outputs ≡ p.outputs → IsErr result × IsErrAnd result (λ e. e ≡ fault)
        → AppendsWhereTold old (machine_trace p r (ran k)) mid → before ≤ since
        → PutMeans {X = X} mid new since after (trace_line_of (k + 1) outputs (spots_of r y)) (Err fault)
        → ReplayMeans {X = X} p r wires events x y old new before after result
    replay_broke_off {X} outputs old mid new before since after fault (Ok done) same is text later put = absurd is.1
    replay_broke_off {X} outputs old mid new before since after fault (Err other) same is text later put =
        let told = line_broken p.outputs shown_before (spots_of r y) old mid new text X before since after fault later
        (subst (λ line. PutMeans {X = X} mid new since after line (Err fault)) (line_is outputs same) put) in
        let broken = subst (λ shown. (broken : BreaksOff p.outputs shown old new) × Leaves fault broken.count) (sym shown_more) told.1 in
        subst (λ (f : StoreFault). ReplayMeans {X = X} p r wires events x y old new before after (Err f)) (sym is.1)
        (told.0, (k + 1, record { within = within; last = stands_after }, broken.0, broken.1))

  -- all events are run
  pub replay_done : (X : Type 0) (done : X) (k : ℕ) (m : State) (old new : Option (List ℕ)) (before after : ℕ)
      → k ≡ length events → m ≡ last_of x (ran k) → AppendsWhereTold old (machine_trace p r (ran k)) new
      → ReplayMeans p r wires events x m old new before after (Ok done)
  replay_done X done k m old new before after all stood text =
      let whole : run_of r wires x (take k events) ≡ run_of r wires x events = ap (run_of r wires x) (take_all k events (omega (arith, all))) in (
        record { within = omega arith; last = stood ∙ ap (λ n. last_of x (ran n)) all },
        subst (λ (xs : List State). AppendsWhereTold old (machine_trace p r xs) new) whole text,
      )
