-- Offered to the crates above: a slot keeps true marks true, whatever its actions are.
use Rattle.std.proofs.Common.{◌≡◌, ℕ, suc, Bool, true, List, length, refl, subst, sym}
use Rattle.std.specs.Prelude.{◌<◌, Option, Some, None, unwrap_or}
use Rattle.design_core.specs.declared.node.NodeId.{NodeId}
use Rattle.design_core.specs.declared.values.PortBit.{PortBit}
use Rattle.design_core.specs.Valuation.{Valuation}
use Rattle.emu_machine.specs.declared.map.Subject.{Subject}
use Rattle.emu_machine.specs.declared.schedule.Action.{Action}
use Rattle.emu_machine.specs.declared.schedule.Action.TheVariants as action
use Rattle.emu_machine.specs.Netlist.{chip_at}
use Rattle.emu_machine.specs.State.{State, action_value, first_given, frame_slots, ending, slot_step}
use Rattle.emu_machine.specs.Mapped.{subject}
use Rattle.emu_machine.specs.Marks.{Mark, MarkState, action_mark, marks_step}
use Rattle.emu_machine.specs.Acceptance.{Case, is_in_group, action_fits, case_action_fits, keeps_subject}
use Rattle.emu_machine.specs.Law.{IsCase}
use Rattle.marks_law.specs.Facts.{EventFacts}
use Rattle.marks_law.specs.Truth.{IsTrueOf, NetsTrue}
use Rattle.facts.proofs.Tests.{right}
use Rattle.marks_law.proofs.Chips.{subject_in_range}
use Rattle.marks_law.proofs.Through.{gates_keep_marks}
use Rattle.marks_law.proofs.FrameActions.{StandsAt, stands_at, EndsIn, ends_in}
use Rattle.marks_law.specs.Slots.{StateTrue, PartsFit, FrameFits, SlotKeepsMarks}
use Rattle.slot_law.proofs.Targets.{alone, GivesRegister, GivesNet}
use Rattle.slot_law.proofs.Kept.{IsGiven, nothing, first_true}
use Rattle.slot_law.proofs.Registers.{given_input, given_send, given_load}
use Rattle.slot_law.proofs.Reading.{given_read}
use Rattle.slot_law.proofs.Writing.{words_written, word_kept, word_untouched}
use Rattle.slot_law.proofs.Carrying.{carried_true}

module _ (c : Case) (frame slot : ℕ) (is : IsCase c) (parts : PartsFit c) (fit : FrameFits c frame) (inside : NodeId → Bool) (v w : Valuation) (event : List PortBit)
    (facts : EventFacts c.design inside v event w) (s : MarkState) (x : State) (old : StateTrue c frame slot v w s x) where
  -- marks that are true of what is held are true of all nets
  nets : NetsTrue c.design c.results inside v w s x
  nets = gates_keep_marks c.design c.results inside v w event s x facts parts.gates parts.subjects old.sources

  -- the actions that end in the slot
  abbrev ends : List Action
  ends = ending c.board.wires (frame_slots c.results frame) slot

  -- the mark that an action gives to a net
  abbrev mark_given : ℕ → ℕ → Action → Option Mark
  mark_given chip n a = action_mark c.design c.results c.board.wires inside s a chip n

  -- the value that it gives to it
  abbrev value_given : ℕ → ℕ → Action → Option Bool
  value_given chip n a = action_value c.results.net c.board.wires x a chip n

  -- an action that ends in the slot gives a net what is true
  by_action : (chip n : ℕ) → n < (chip_at c.results.net chip).nets → (a : Action) → EndsIn c.board.wires (frame_slots c.results frame) slot a
      → (slots at : ℕ) → action_fits c.results.net c.board.wires (is_in_group c frame) slots at a ≡ true → keeps_subject c a ≡ true
      → IsGiven c.design v w (subject c.results chip n) (x.held chip n) (GivesRegister c chip n a) (GivesNet c chip n a) (mark_given chip n a) (value_given chip n a)
  by_action chip n small (action.Input on register net) end slots at fits keeps =
      given_input c frame is parts inside v w event facts slot s x old nets chip n on register net small (right _ _ fits) keeps
  by_action chip n small (action.Load on register) end slots at fits keeps =
      given_load c frame is parts inside v w event facts slot s x old nets chip n on register small
  by_action chip n small (action.Send wire net register) end slots at fits keeps =
      given_send c frame is parts inside v w event facts slot s x old nets chip n wire net register small keeps end
  by_action chip n small (action.Write on mem port) end slots at fits keeps = nothing
  by_action chip n small (action.Read on mem port) end slots at fits keeps =
      given_read c is parts inside v w event facts frame slot s x old nets chip n on mem port

  -- it stands in a slot of the frame, in which it fits
  given : (chip n : ℕ) → n < (chip_at c.results.net chip).nets → (a : Action) → EndsIn c.board.wires (frame_slots c.results frame) slot a
      → IsGiven c.design v w (subject c.results chip n) (x.held chip n) (GivesRegister c chip n a) (GivesNet c chip n a) (mark_given chip n a) (value_given chip n a)
  given chip n small a end =
      let stands : StandsAt (frame_slots c.results frame) end.place end.from = stands_at (frame_slots c.results frame) end.place end.from end.at in
      by_action chip n small a end (length (frame_slots c.results frame)) end.from.slot
      (subst (λ (b : Action). case_action_fits c frame end.from.slot b ≡ true) (sym end.is) (fit.there end.from.slot stands.place end.from.action stands.at))
      (subst (λ (b : Action). keeps_subject c b ≡ true) (sym end.is) (fit.keeps end.from.slot stands.place end.from.action stands.at))

  -- what registers and read ports hold at the end of the slot bears true marks
  held : (chip n : ℕ) → IsTrueOf c.design v w (subject c.results chip n)
      (unwrap_or (first_given (mark_given chip n) ends) (s.on chip n))
      (unwrap_or (first_given (value_given chip n) ends) (x.held chip n))
  held chip n = by_subject (subject c.results chip n) refl
    where
      by_subject : (o : Option Subject) → subject c.results chip n ≡ o → IsTrueOf c.design v w o
          (unwrap_or (first_given (mark_given chip n) ends) (s.on chip n))
          (unwrap_or (first_given (value_given chip n) ends) (x.held chip n))
      by_subject None e = tt
      by_subject (Some what) e =
          let small : n < (chip_at c.results.net chip).nets = subject_in_range c.results is.mapped chip n what e in
          subst
          (λ o. IsTrueOf c.design v w o (unwrap_or (first_given (mark_given chip n) ends) (s.on chip n)) (unwrap_or (first_given (value_given chip n) ends) (x.held chip n)))
          e
          (first_true c.design v w (subject c.results chip n) (x.held chip n) (mark_given chip n) (value_given chip n) (GivesRegister c chip n) (GivesNet c chip n) (s.on chip n) ends
          (λ j a at. given chip n small a (ends_in c.board.wires (frame_slots c.results frame) slot j a at))
          (alone c frame slot is fit chip n small)
          (old.sources chip n))

  -- what the slot makes of true marks is true
  kept : StateTrue c frame (suc slot) v w
      (marks_step c.design c.results c.board.wires inside (frame_slots c.results frame) slot s)
      (slot_step c.results.net c.board.wires (frame_slots c.results frame) slot x)
  kept =
      record {
        sources = held;
        words = λ chip m of a memory at there address whole.
            word_kept c parts inside v w frame slot s x old nets chip m of a memory at there address _ _ (words_written c x chip m a frame slot fit) whole;
        untouched = λ chip m of a at address unwritten.
            word_untouched c x chip m a (s.wrote chip m) (v.word of a) _ _ (words_written c x chip m a frame slot fit) unwritten (old.untouched chip m of a at address);
        outside = old.outside;
        flights = λ a wire net register wire_ends there sends at on_way.
            carried_true c frame slot fit inside v w s x old nets a wire net register wire_ends there sends at on_way;
      }

-- each slot of a frame that fits keeps true marks true
pub slot_keeps_marks : SlotKeepsMarks
slot_keeps_marks c k t is parts fit inside v w event s x facts old = kept c k t is parts fit inside v w event facts s x old
