-- `settle` and `replay` print one trace where the twelve rules hold.
use Rattle.std.proofs.Common.{ℕ, ◌≡◌, List, ◌∷◌, sym, ◌∙◌, subst, arith}
use Rattle.design_core.specs.declared.parts.Parts.{Parts}
use Rattle.design_core.specs.Event.{IsHistory}
use Rattle.design_core.specs.Valuation.{Valuation}
use Rattle.emu_machine.specs.Acceptance.{Case}
use Rattle.emu_machine.specs.Headline.{event_values}
use Rattle.domain_groups.specs.Traces.{settled_trace}
use Rattle.trace_law.specs.Traces.{SettledTraceIsOne}
use Rattle.emu_app.specs.declared.recording.Recording.{Recording}
use Rattle.emu_app.specs.declared.command.Command.TheVariants.{Settle}
use Rattle.case_texts.specs.declared.what.What.{What}
use Rattle.case_texts.specs.declared.what.What.TheVariants.{Design, Cells, Groups, Opening, Events}
use Rattle.emu_app.specs.Command.{Reads}
use Rattle.case_texts.specs.What.{Texts}
use Rattle.case_texts.specs.Cases.{StandFor}
use Rattle.emu_app.specs.Reading.{StandForSettle}
use Rattle.emu_app.specs.Runs.{IsHistoryTrace, RecordingSays, opening_of}
use Rattle.emu_app.specs.Answers.{SettleAndReplayAgree}
use Rattle.emu_app.proofs.Completing.{first_too, recorded_too}

-- a case and a recording that texts stand for are what `settle` runs, of all texts that are the same for it
stands_too : (top : List ℕ) (texts others : Texts) (c : Case) (r : Recording) → ((what : What) → Reads Settle what → texts what ≡ others what) → StandFor top texts c → RecordingSays texts c.design r → StandForSettle top others c.design r
stands_too top texts others c r same s recorded =
    record {
      groups = s.groups;
      first = first_too top texts others c.design s.groups (same Design (omega arith)) (same Cells (omega arith)) (same Groups (omega arith)) s.first;
      recorded = recorded_too texts others c.design r (same Groups (omega arith)) (same Opening (omega arith)) (same Events (omega arith)) recorded;
    }

-- the trace of the one history is that of every history of the same recording
one_trace : SettledTraceIsOne → (p q : Parts) (r other : Recording) (first : Valuation) (rest : List Valuation) (trace : List ℕ)
    → p ≡ q → r ≡ other → IsHistory p (opening_of r) (event_values r.events) (first ∷ rest) → IsHistoryTrace q other trace → settled_trace p rest ≡ trace
one_trace law p q r other first rest trace same-p same-r history is =
    subst (λ x. settled_trace x rest ≡ trace) (sym same-p)
    (law q (opening_of other) other.events first rest is.one is.sound moved.0 moved.1 ∙ sym is.shown)
  where
    moved : IsHistory q (opening_of other) (event_values other.events) (first ∷ rest)
    moved = subst (λ x. IsHistory q (opening_of x) (event_values x.events) (first ∷ rest)) same-r (subst (λ x. IsHistory x (opening_of r) (event_values r.events) (first ∷ rest)) same-p history)

pub traces_agree : SettledTraceIsOne → SettleAndReplayAgree
traces_agree law top texts others settled replayed run alike accepted settles =
    let same : (run.judged.design ≡ settles.design) × (run.recording ≡ settles.recording) =
    settles.stand.one run.judged.design run.recording (stands_too top texts others run.judged run.recording alike run.stand.stand.stand run.stand.recorded) in
    run.is.agrees accepted
    ∙ one_trace law run.judged.design settles.design run.recording settles.recording run.is.first run.is.rest settled same.0 same.1 run.is.is_history settles.is
