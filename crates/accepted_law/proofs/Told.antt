-- What true marks tell of the nets, the memories and the wires of a machine.
use Rattle.std.proofs.Common.{◌≡◌, ℕ, Bool, List, subst, ap, ◌∙◌}
use Rattle.std.specs.Prelude.{Option, Some}
use Rattle.design_core.specs.declared.node.NodeId.{NodeId}
use Rattle.design_core.specs.declared.values.PortBit.{PortBit}
use Rattle.design_core.specs.Valuation.{Valuation}
use Rattle.emu_machine.specs.declared.map.Subject.{Subject}
use Rattle.emu_machine.specs.declared.map.Subject.TheVariants.{Net}
use Rattle.emu_machine.specs.State.{State, frame_slots, net_value}
use Rattle.emu_machine.specs.Mapped.{subject}
use Rattle.emu_machine.specs.Marks.{Mark, MarkState, net_mark, marks_at, CarriedTrue, TrueMarks}
use Rattle.emu_machine.specs.Acceptance.{Case}
use Rattle.marks_law.specs.Facts.{EventFacts}
use Rattle.marks_law.specs.Truth.{MarkHolds, IsTrueOf, NetsTrue}
use Rattle.marks_law.specs.Slots.{StateTrue, PartsFit, FrameFits}
use Rattle.marks_law.proofs.Through.{gates_keep_marks}
use Rattle.marks_law.proofs.Flights.{carried_as_sent}

module _ (c : Case) (frame : ℕ) (fit : FrameFits c frame) (parts : PartsFit c) (inside : NodeId → Bool) (v w : Valuation) (event : List PortBit)
    (facts : EventFacts c.design inside v event w) (t : ℕ) (x : State) where
  -- the marks at the start of a slot
  abbrev marks : ℕ → MarkState
  marks u = marks_at c.design c.results c.board.wires inside (frame_slots c.results frame) u

  -- a fact of a net that may have no subject is one of the subject that it has
  holds : (o : Option Subject) (what : Subject) (m : Mark) (b : Bool) → o ≡ Some what → IsTrueOf c.design v w o m b → MarkHolds c.design v w what m b
  holds o what m b e h = subst (λ (z : Option Subject). IsTrueOf c.design v w z m b) e h

  module _ (fine : StateTrue c frame t v w (marks t) x) where
    nets : NetsTrue c.design c.results inside v w (marks t) x
    nets = gates_keep_marks c.design c.results inside v w event (marks t) x facts parts.gates parts.subjects fine.sources

    net_holds : (chip n : ℕ) (what : Subject) → subject c.results chip n ≡ Some what
        → MarkHolds c.design v w what (net_mark c.design c.results inside (marks t) chip n) (net_value c.results.net x chip n)
    net_holds chip n what e = holds (subject c.results chip n) what _ _ e (nets chip n)

    carried : CarriedTrue c.design c.results c.board.wires inside (frame_slots c.results frame) t v w x
    carried a wire net register ends n there is at on_way of =
        let sent : (marks t).carried wire.place ≡ net_mark c.design c.results inside (marks a.slot) ends.from.place net.place =
        carried_as_sent c frame fit inside a wire net register ends there is at t on_way in
        let flight : MarkHolds c.design v w (Net n) ((marks t).carried wire.place) (x.carried wire.place) =
        holds (subject c.results ends.from.place net.place) (Net n) _ _ of (fine.flights a wire net register ends there is at on_way) in (
          λ before. flight.before (ap (λ (m : Mark). m.before) sent ∙ before),
          λ after. flight.after (ap (λ (m : Mark). m.after) sent ∙ after),
        )

    -- they tell what each net shows that bears a mark, what each memory holds, and what is on its way
    pub told_marks : TrueMarks c.design c.results c.board.wires inside (frame_slots c.results frame) t v w x
    told_marks =
        record {
          before = λ chip n m of marked. (net_holds chip n (Net m) of).before marked;
          after = λ chip n what of marked. (net_holds chip n what of).after marked;
          words = fine.words;
          outside = fine.outside;
          carried = carried;
        }
