-- Inside the law of acceptance: what is left of agreement once slots keep true marks: frames and runs. The
-- rules are told in docs/RULES.md, "Agreement" and "The headline".
use Rattle.std.specs.Prelude.{ℕ, List}
use Rattle.design_core.specs.declared.values.Event.{Event}
use Rattle.design_core.specs.Valuation.{Valuation}
use Rattle.design_core.specs.Settled.{Opening, OpeningFits, IsSettled}
use Rattle.design_core.specs.Event.{IsAfter, HasOneHistory}
use Rattle.emu_machine.specs.State.{State}
use Rattle.emu_machine.specs.Mapped.{IsLoaded}
use Rattle.emu_machine.specs.Acceptance.{Case, IsAccepted}
use Rattle.emu_machine.specs.Headline.{EventFits, EventsFit, event_values, IsSampled, Headline}
use Rattle.emu_machine.specs.Law.{IsCase}
use Rattle.marks_law.specs.Slots.{KeepsMarks}

-- the slots of every frame keep true marks true
abbrev pub SlotsKeep : Case → Type 0
SlotsKeep c = (frame slot : ℕ) → KeepsMarks c frame slot

-- in any event from a settled valuation, the frame of a machine that is loaded from it takes sampled data
abbrev pub FramesSample : Case → Type 0
FramesSample c =
    (event : Event) (v w : Valuation) (x : State)
    → EventFits c event
    → IsSettled c.design v
    → IsAfter c.design v event.values w
    → IsLoaded c.design c.results v x
    → IsSampled c event v w x

-- for every opening and every list of events of the groups there is exactly one history
abbrev pub HistoriesAreOne : Case → Type 0
HistoriesAreOne c =
    (o : Opening) (events : List Event)
    → OpeningFits c.design o
    → EventsFit c events
    → HasOneHistory c.design o (event_values events)

-- an accepted case has the headline, where its slots keep true marks true, its frames take sampled data,
-- and its histories are one
abbrev pub SlotsGiveAgreement : Type 0
SlotsGiveAgreement =
    (c : Case) → IsCase c → IsAccepted c → SlotsKeep c → FramesSample c → HistoriesAreOne c → Headline c
