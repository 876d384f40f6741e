-- What traces tell of the original, of the machine, and of a run that breaks off.
-- The rules are told in docs/FORMATS.md, "Traces", and in docs/RULES.md, "History" and "The headline".
use Rattle.std.specs.Prelude.{◌≡◌, ◌≤◌, ℕ, Bool, List, ◌∷◌, map, take, drop, length, Option}
use Rattle.design_core.specs.declared.node.NodeId.{NodeId}
use Rattle.design_core.specs.declared.parts.Parts.{Parts}
use Rattle.design_core.specs.declared.parts.Port.{Port}
use Rattle.design_core.specs.declared.values.Event.{Event}
use Rattle.design_core.specs.Design.{IsDesign, port_bits}
use Rattle.design_core.specs.Dependency.{IsRanked}
use Rattle.design_core.specs.Valuation.{Valuation, SameValues}
use Rattle.design_core.specs.Settled.{Opening, OpeningFits, IsOpened}
use Rattle.design_core.specs.Event.{Follow, IsHistory, HasOneHistory}
use Rattle.emu_io.specs.Sink.{AppendsWhereTold}
use Rattle.emu_machine.specs.State.{State, run_of}
use Rattle.emu_machine.specs.Mapped.{IsLoaded}
use Rattle.emu_machine.specs.declared.rule.Rule.TheVariants.{A2, A5, A7, A9}
use Rattle.emu_machine.specs.Acceptance.{Case, Holds, IsAccepted}
use Rattle.emu_machine.specs.Headline.{EventsFit, event_values}
use Rattle.emu_machine.specs.Building.{IsBuilt}
use Rattle.emu_machine.specs.Law.{IsCase}
use Rattle.cycle_sim.specs.Loading.{FreeAreZero}
use Rattle.domain_groups.specs.Traces.{outputs_of, settled_trace, machine_trace, BreaksOff, trace_of}

-- where the twelve rules hold, the trace of a machine that is loaded from the opened valuation is that of
-- the original, whatever the opening and the events
abbrev pub TracesAgree : Type 0
TracesAgree =
    (c : Case) (o : Opening) (events : List Event) (v : Valuation) (vs : List Valuation) (x : State)
    → IsCase c
    → IsAccepted c
    → OpeningFits c.design o
    → EventsFit c events
    → IsHistory c.design o (event_values events) (v ∷ vs)
    → IsLoaded c.design c.results v x
    → machine_trace c.design c.results (run_of c.results c.board.wires x events) ≡ settled_trace c.design vs

-- where rules A2, A5 and A7 hold, all machines that are loaded from one valuation, with 0 in each free register and
-- read net, have one trace, whatever the events and whatever the wires carry at first
abbrev pub LoadedTraceIsOne : Type 0
LoadedTraceIsOne =
    (c : Case) (inside : ℕ → NodeId → Bool) (events : List Event) (v : Valuation) (x y : State)
    → IsCase c
    → IsBuilt c.results.net
    → Holds c inside A2
    → Holds c inside A5
    → Holds c inside A7
    → IsLoaded c.design c.results v x
    → FreeAreZero c.results x
    → IsLoaded c.design c.results v y
    → FreeAreZero c.results y
    → machine_trace c.design c.results (run_of c.results c.board.wires x events)
    ≡ machine_trace c.design c.results (run_of c.results c.board.wires y events)

-- two opened valuations of one opening are the same
abbrev pub OpenedAreSame : Type 0
OpenedAreSame =
    (p : Parts) (o : Opening) (v w : Valuation)
    → IsDesign p
    → IsRanked p
    → OpeningFits p o
    → IsOpened p o v
    → IsOpened p o w
    → SameValues p v w

-- what a run of the original has shown after its first events, so many of them, is what the one history
-- shows there; the first valuation of a history stands before all events
abbrev pub SettledTraces : Type 0
SettledTraces =
    (p : Parts) (o : Opening) (events : List Event) (count : ℕ) (v : Valuation) (vs : List Valuation)
    (h : HasOneHistory p o (event_values events))
    → IsDesign p
    → IsRanked p
    → OpeningFits p o
    → IsOpened p o v
    → count ≤ length events
    → Follow p v (event_values (take count events)) vs
    → map (outputs_of p) vs ≡ take count (map (outputs_of p) (drop 1 h.history))

-- the trace of a run of the original over all events is the trace of the one history
abbrev pub SettledTraceIsOne : Type 0
SettledTraceIsOne =
    (p : Parts) (o : Opening) (events : List Event) (v : Valuation) (vs : List Valuation)
    (h : HasOneHistory p o (event_values events))
    → IsDesign p
    → IsOpened p o v
    → Follow p v (event_values events) vs
    → settled_trace p vs ≡ settled_trace p (drop 1 h.history)

-- a trace that breaks off after some of what is shown is some first bytes of the whole trace
abbrev pub BrokenTraces : Type 0
BrokenTraces =
    (outputs : List Port) (shown : List (List Bool)) (count : ℕ) (old new : Option (List ℕ))
    → BreaksOff outputs (take count shown) old new
    → (bytes : ℕ)
    × (bytes ≤ length (trace_of outputs shown))
    × AppendsWhereTold old (take bytes (trace_of outputs shown)) new

-- by rule A9 the map has as many outputs as the design has output bits
abbrev pub OutputsAreMapped : Type 0
OutputsAreMapped =
    (c : Case) (inside : ℕ → NodeId → Bool)
    → Holds c inside A9
    → length c.results.map.outputs ≡ length (port_bits c.design.outputs)
