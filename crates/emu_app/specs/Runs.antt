-- What `settle` and `replay` run, and the traces that come of it.
-- The rules are told in docs/FORMATS.md, "Commands" and "Traces", and docs/RULES.md, "History" and "Loaded".
use Rattle.std.specs.Prelude.{◌≡◌, ◌≤◌, ℕ, Bool, true, List, ◌∷◌, drop, Contains}
use Rattle.design_core.specs.declared.node.NodeId.{NodeId}
use Rattle.design_core.specs.declared.parts.Parts.{Parts}
use Rattle.design_core.specs.declared.values.Event.{Event}
use Rattle.design_core.specs.Design.{IsDesign}
use Rattle.design_core.specs.Event.{IsHistory, HasOneHistory}
use Rattle.design_core.specs.Settled as settled
use Rattle.design_core.specs.Valuation.{Valuation}
use Rattle.domain_groups.specs.Events.{SaysEvents}
use Rattle.domain_groups.specs.Groups.{InputGroups}
use Rattle.domain_groups.specs.Openings.{StandsForOpening}
use Rattle.domain_groups.specs.Traces.{settled_trace, machine_trace}
use Rattle.settled_model.specs.declared.opening.Opening.{Opening}
use Rattle.settled_model.specs.Opening.{Opens, stands_for}
use Rattle.emu_machine.specs.declared.rule.Rule.{Rule}
use Rattle.emu_machine.specs.Acceptance.{Case, Holds, IsAccepted, rule_number}
use Rattle.emu_machine.specs.Headline.{event_values}
use Rattle.emu_machine.specs.Mapped.{IsLoaded, is_kept, subject}
use Rattle.emu_machine.specs.Results.{Results}
use Rattle.emu_machine.specs.State.{State, run_of}
use Rattle.cycle_sim.specs.Loading.{FreeAreZero, IsDesignNet}
use Rattle.event_replay.specs.Opened.{plain}
use Rattle.event_replay.specs.Settings.{AreInputBits}
use Rattle.shape_check.specs.declared.verdict.Verdict.TheVariants.{Rejected}
use Rattle.shape_check.specs.Verdict.{IsShapeVerdict}
use Rattle.emu_app.specs.declared.answer.Answer.{Answer}
use Rattle.emu_app.specs.declared.answer.Answer.TheVariants as answer
use Rattle.emu_app.specs.declared.recording.Recording.{Recording}
use Rattle.case_texts.specs.declared.what.What.TheVariants.{Groups, Opening as OpeningText, Events}
use Rattle.case_texts.specs.What.{Texts}
use Rattle.case_texts.specs.Forms.{SaysGroups}

-- a text stands for this opening of a design
abbrev pub SaysOpening : Parts → List ℕ → Opening → Type 0
SaysOpening p text o = StandsForOpening p text (plain o)

-- the texts say this opening of a design, and these events of the groups that they say
pub record RecordingSays (texts : Texts) (p : Parts) (r : Recording) : Type 0 where
  pub opening : SaysOpening p (texts OpeningText) r.opening
  pub groups : InputGroups
  pub says_groups : SaysGroups p (texts Groups) groups
  pub events : SaysEvents groups p.inputs (texts Events) r.events

-- what the opening gives to everything: what it does not name is 0
abbrev pub opening_of : Recording → settled.Opening
opening_of r = stands_for r.opening

-- the trace of the one history of an opening and events
pub record IsHistoryTrace (p : Parts) (r : Recording) (trace : List ℕ) : Type 0 where
  pub sound : IsDesign p
  pub one : HasOneHistory p (opening_of r) (event_values r.events)
  pub shown : trace ≡ settled_trace p (drop 1 one.history)

-- The trace of every machine that is loaded from an opened valuation, with 0 in all that is free; and there
-- is one, loaded from the first valuation of the history. Where the twelve rules hold, the trace is that of
-- the history too.
pub record IsMachineTrace (c : Case) (r : Recording) (trace : List ℕ) : Type 0 where
  pub first : Valuation
  pub rest : List Valuation
  pub is_history : IsHistory c.design (opening_of r) (event_values r.events) (first ∷ rest)
  pub loaded : State
  pub is_loaded : IsLoaded c.design c.results first loaded
  pub free : FreeAreZero c.results loaded
  pub shown : (v : Valuation) (x : State)
      → settled.IsOpened c.design (opening_of r) v
      → IsLoaded c.design c.results v x
      → FreeAreZero c.results x
      → trace ≡ machine_trace c.design c.results (run_of c.results c.board.wires x r.events)
  pub agrees : IsAccepted c → trace ≡ settled_trace c.design rest

-- The rules A1 to A9 hold, so that a machine can run the results. None of them asks for the influence of a group,
-- so that they hold whatever the influences are.
abbrev pub CanReplay : Case → Type 0
CanReplay c = (inside : ℕ → NodeId → Bool) (rule : Rule) → rule_number rule ≤ 9 → Holds c inside rule

-- ## Inside the commands

-- the opening is one of the design, and each event gives values to input bits of the design, to each bit at
-- most one
pub record FitsDesign (p : Parts) (r : Recording) : Type 0 where
  pub opening : Opens p r.opening
  pub events : (event : Event) → Contains r.events event → AreInputBits p event.values

-- a run comes to a trace and to no answer
abbrev pub NoAnswer : Answer → Type 0
NoAnswer found = ⊥

-- results that a machine cannot run are rejected, with the first of the rules A1 to A9 that fails
abbrev pub IsUnfit : Case → Answer → Type 0
IsUnfit c (answer.Rejected rule at) = IsShapeVerdict c (Rejected rule at)
IsUnfit c other = ⊥

-- results that a machine can run have its trace
abbrev pub IsRun : Case → Recording → List ℕ → Type 0
IsRun c r trace = CanReplay c × IsMachineTrace c r trace

-- what is kept of results stands for nets of the design
abbrev pub KeepsNets : Parts → Results → Type 0
KeepsNets p r = (c n : ℕ) → is_kept r c n ≡ true → IsDesignNet p (subject r c n)

-- a state is loaded from each valuation that is opened so
abbrev pub LoadsOpened : Parts → Results → Opening → State → Type 0
LoadsOpened p r o x = (v : Valuation) → settled.IsOpened p (stands_for o) v → IsLoaded p r v x
