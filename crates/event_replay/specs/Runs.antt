-- How far a run has gone, and what stands in the sink where a line of its trace could not be put.
-- The rule is told in docs/FORMATS.md, "Traces".
use Rattle.std.specs.Prelude.{◌≡◌, ◌≤◌, ℕ, List, map, take, length, Option, Result, Ok, Err}
use Rattle.id_arena.specs.declared.wire.Wire.{Wire}
use Rattle.design_core.specs.declared.parts.Parts.{Parts}
use Rattle.design_core.specs.declared.values.Event.{Event}
use Rattle.design_core.specs.Event.{Follow}
use Rattle.design_core.specs.Valuation.{Valuation}
use Rattle.emu_io.specs.declared.files.StoreFault.{StoreFault}
use Rattle.emu_io.specs.declared.files.StoreFault.TheVariants as store
use Rattle.emu_io.specs.Faults.{Rose}
use Rattle.emu_io.specs.Sink.{AppendsWhereTold}
use Rattle.emu_machine.specs.Results.{Results}
use Rattle.emu_machine.specs.Headline.{event_values}
use Rattle.emu_machine.specs.State.{State, run_of}
use Rattle.settled_model.specs.Runs.{last_of}
use Rattle.domain_groups.specs.Traces.{BreaksOff, machine_trace, outputs_of, settled_trace, spots_of}

-- a failure shows in the sink's count; want of memory shows nowhere
abbrev pub Shows : StoreFault → ℕ → ℕ → Type 0
Shows store.Failed before now = Rose before now
Shows store.NoMemory before now = Unit {0}

-- a failure may leave any number of first bytes of a line; want of memory leaves none
abbrev pub Leaves : StoreFault → ℕ → Type 0
Leaves store.Failed count = Unit {0}
Leaves store.NoMemory count = count ≡ 0

-- the first events, so many of them, led from one valuation to another over these
pub record HaveSettled (p : Parts) (v : Valuation) (events : List Event) (count : ℕ) (vs : List Valuation) (now : Valuation) : Type 0 where
  pub within : count ≤ length events
  pub follow : Follow p v (event_values (take count events)) vs
  pub last : now ≡ last_of v vs

-- By the answer of running events on the original: Ok where all are done and their trace is written. After
-- a fault in the line of an event, the events up to it are done, and the trace breaks off in that line, or
-- before it for want of memory.
abbrev pub SettleMeans : {X : Type 0} → Parts → List Event → Valuation → Valuation → Option (List ℕ) → Option (List ℕ) → ℕ → ℕ → Result X StoreFault → Type 0
SettleMeans p events v now old new before after (Ok done) =
    (vs : List Valuation) × HaveSettled p v events (length events) vs now × AppendsWhereTold old (settled_trace p vs) new
SettleMeans p events v now old new before after (Err fault) =
    Shows fault before after
    × ((count : ℕ) × (vs : List Valuation) × HaveSettled p v events count vs now
    × (broken : BreaksOff p.outputs (map (outputs_of p) vs) old new) × Leaves fault broken.count)

-- the first events, so many of them, led the machine from one state to another
pub record HasRun (r : Results) (wires : List Wire) (x : State) (events : List Event) (count : ℕ) (now : State) : Type 0 where
  pub within : count ≤ length events
  pub last : now ≡ last_of x (run_of r wires x (take count events))

-- the same for the machine
abbrev pub ReplayMeans : {X : Type 0} → Parts → Results → List Wire → List Event → State → State → Option (List ℕ) → Option (List ℕ) → ℕ → ℕ → Result X StoreFault → Type 0
ReplayMeans p r wires events x now old new before after (Ok done) =
    HasRun r wires x events (length events) now × AppendsWhereTold old (machine_trace p r (run_of r wires x events)) new
ReplayMeans p r wires events x now old new before after (Err fault) =
    Shows fault before after
    × ((count : ℕ) × HasRun r wires x events count now
    × (broken : BreaksOff p.outputs (map (spots_of r) (run_of r wires x (take count events))) old new) × Leaves fault broken.count)
