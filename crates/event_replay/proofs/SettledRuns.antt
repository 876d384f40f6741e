-- The original run through events one by one, with the trace of what its outputs show.
use Rattle.std.proofs.Common.{◌≡◌, ◌<◌, ◌≤◌, ◌+◌, ℕ, suc, List, [], ◌∷◌, ◌++◌, map, take, length, refl, sym, ap, subst, ◌∙◌, arith}
use Rattle.std.specs.Prelude.{Option, Some, Err, slice_get}
use Rattle.std.proofs.lemmas.List.{map-append, length-map, length-take-le}
use Rattle.std.proofs.lemmas.Option.{slice_get_within}
use Rattle.design_core.specs.declared.parts.Parts.{Parts}
use Rattle.design_core.specs.declared.values.Event.{Event}
use Rattle.design_core.specs.declared.values.PortBit.{PortBit}
use Rattle.design_core.specs.Event.{IsAfter, Follow}
use Rattle.design_core.specs.Valuation.{Valuation}
use Rattle.emu_io.specs.declared.files.StoreFault.{StoreFault}
use Rattle.emu_io.specs.Sink.{AppendsWhereTold, PutMeans}
use Rattle.emu_machine.specs.Headline.{event_values}
use Rattle.settled_model.proofs.History.{runs_grow}
use Rattle.domain_groups.specs.Traces.{BreaksOff, outputs_of, settled_trace, trace_line_of, trace_of}
use Rattle.event_replay.specs.Runs.{HaveSettled, Leaves, SettleMeans}
use Rattle.event_replay.proofs.TraceGrowth.{last_more, line_broken, line_put, take_next}

-- the first events, so many of them, are done, and their trace is written whole
pub record Settling (p : Parts) (v : Valuation) (events : List Event) (count : ℕ) (now : Valuation) (old new : Option (List ℕ)) : Type 0 where
  pub vs : List Valuation
  pub done : HaveSettled p v events count vs now
  pub text : AppendsWhereTold old (settled_trace p vs) new

as_many : (p : Parts) (v : Valuation) (events : List (List PortBit)) (vs : List Valuation) → Follow p v events vs → length vs ≡ length events
as_many p v [] [] follow = refl
as_many p v [] (x ∷ vs) follow = absurd follow
as_many p v (e ∷ events) [] follow = absurd follow
as_many p v (e ∷ events) (x ∷ vs) follow = ap suc (as_many p x events vs follow.1)

module _ (p : Parts) (v : Valuation) (events : List Event) (count : ℕ) (now : Valuation) (old mid new : Option (List ℕ)) (so_far : Settling p v events count now old mid) (event : Event) (at : slice_get events count ≡ Some event) (w : Valuation) (after : IsAfter p now event.values w) where
  within : count < length events
  within = slice_get_within events count event at

  done_next : HaveSettled p v events (count + 1) (so_far.vs ++ w ∷ []) w
  done_next = record {
    within = omega (arith, within);
    follow =
        subst (λ given. Follow p v given (so_far.vs ++ w ∷ []))
        (sym (ap event_values (take_next events count event at) ∙ map-append (λ e. e.values) (take count events) (event ∷ [])))
        (runs_grow p v (event_values (take count events)) so_far.vs event.values w so_far.done.follow
        (subst (λ u. IsAfter p u event.values w) so_far.done.last after));
    last = sym (last_more v so_far.vs w);
  }

  -- the number of its line
  line_number : count + 1 ≡ length (map (outputs_of p) so_far.vs) + 1
  line_number =
      let many : length so_far.vs ≡ length (event_values (take count events)) = as_many p v (event_values (take count events)) so_far.vs so_far.done.follow in
      let given : length (event_values (take count events)) ≡ length (take count events) = length-map (take count events) (λ e. e.values) in
      let first : length (take count events) ≡ count = length-take-le count events so_far.done.within in
      let shown : length (map (outputs_of p) so_far.vs) ≡ length so_far.vs = length-map so_far.vs (outputs_of p) in
      omega (arith, many, given, first, shown)

  shown_next : map (outputs_of p) (so_far.vs ++ w ∷ []) ≡ map (outputs_of p) so_far.vs ++ outputs_of p w ∷ []
  shown_next = map-append (outputs_of p) so_far.vs (w ∷ [])

  -- one more event and its line
  pub event_done : AppendsWhereTold mid (trace_line_of (count + 1) p.outputs (outputs_of p w)) new → Settling p v events (count + 1) w old new
  event_done put = record {
    vs = so_far.vs ++ w ∷ [];
    done = done_next;
    text =
        subst (λ shown. AppendsWhereTold old (trace_of p.outputs shown) new) (sym shown_next)
        (line_put p.outputs (map (outputs_of p) so_far.vs) (outputs_of p w) old mid new so_far.text
        (subst (λ number. AppendsWhereTold mid (trace_line_of number p.outputs (outputs_of p w)) new) line_number put));
  }

  -- a fault in its line
  pub event_broken : (first start finish : ℕ) (fault : StoreFault) → first ≤ start → PutMeans {X = Unit {0}} mid new start finish (trace_line_of (count + 1) p.outputs (outputs_of p w)) (Err fault) → SettleMeans {X = Unit {0}} p events v w old new first finish (Err fault)
  event_broken first start finish fault less put =
      let told = line_broken p.outputs (map (outputs_of p) so_far.vs) (outputs_of p w) old mid new so_far.text (Unit {0}) first start finish fault less
      (subst (λ number. PutMeans {X = Unit {0}} mid new start finish (trace_line_of number p.outputs (outputs_of p w)) (Err fault)) line_number put) in
      let broken = subst (λ shown. (broken : BreaksOff p.outputs shown old new) × Leaves fault broken.count) (sym shown_next) told.1 in
      (told.0, (count + 1, so_far.vs ++ w ∷ [], done_next, broken.0, broken.1))
