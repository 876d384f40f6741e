-- What acceptance promises within a frame: its marks are true of the machine. The rule is told in
-- docs/RULES.md, "Marks".
use Rattle.std.specs.Prelude.{ℕ}
use Rattle.design_core.specs.declared.values.Event.{Event}
use Rattle.design_core.specs.Valuation.{Valuation}
use Rattle.design_core.specs.Settled.{IsSettled}
use Rattle.design_core.specs.Event.{IsAfter}
use Rattle.emu_machine.specs.State.{State, frame_slots, state_in_frame}
use Rattle.emu_machine.specs.Mapped.{IsLoaded}
use Rattle.emu_machine.specs.Marks.{TrueMarks}
use Rattle.emu_machine.specs.Acceptance.{Case, IsAccepted}
use Rattle.emu_machine.specs.Headline.{EventFits}
use Rattle.emu_machine.specs.Law.{IsCase}

-- Where the twelve rules hold: in the frame of any event from a settled valuation, of a machine that is
-- loaded from it, the marks at the start of each slot are true, and so are those at the frame's end.
abbrev pub AcceptedMarksAreTrue : Type 0
AcceptedMarksAreTrue =
    (c : Case)
    → IsCase c
    → (accepted : IsAccepted c)
    → (event : Event) (v w : Valuation) (x : State) (slot : ℕ)
    → EventFits c event
    → IsSettled c.design v
    → IsAfter c.design v event.values w
    → IsLoaded c.design c.results v x
    → TrueMarks c.design c.results c.board.wires (accepted.inside event.group.place)
    (frame_slots c.results event.group.place) slot v w
    (state_in_frame c.results c.board.wires event x slot)
