-- What a slot makes of what is on its way: a `send` that stands in the slot puts its net's value and marks on the
-- wire, and what was on its way before stays.
use Rattle.std.proofs.Common.{◌≡◌, ℕ, suc, ◌<◌, Bool, true, false, refl, subst, sym, ap, ◌∙◌, inl, inr, if◌then◌else◌}
use Rattle.std.specs.Prelude.{◌⊎◌, Option, Some, None, slice_get, unwrap_or, option_map, Contains}
use Rattle.id_arena.specs.declared.keys.ChipNetId.{ChipNetId}
use Rattle.id_arena.specs.declared.keys.RegId.{RegId}
use Rattle.id_arena.specs.declared.keys.WireId.{WireId}
use Rattle.id_arena.specs.declared.wire.Wire.{Wire}
use Rattle.design_core.specs.declared.node.NodeId.{NodeId}
use Rattle.design_core.specs.Valuation.{Valuation}
use Rattle.emu_machine.specs.declared.schedule.Action.{Action}
use Rattle.emu_machine.specs.declared.schedule.Action.TheVariants as action
use Rattle.emu_machine.specs.State.{State, net_value, action_carried, first_given, frame_slots, Timed, timed_actions, slots_taken}
use Rattle.emu_machine.specs.Mapped.{subject}
use Rattle.emu_machine.specs.Marks.{Mark, MarkState, net_mark, action_carried_mark, is_on_its_way}
use Rattle.emu_machine.specs.Acceptance.{Case, slot_actions}
use Rattle.emu_machine.specs.Headline.{sends_over}
use Rattle.marks_law.specs.Slots.{StateTrue, FrameFits}
use Rattle.marks_law.specs.Truth.{IsTrueOf, NetsTrue}
use Rattle.facts.proofs.Tests.{left, same_number}
use Rattle.marks_law.proofs.Flights.{now_or_before, still_on_way, sent_now, sent_before, no_mark_given, mark_given}

module _ (c : Case) (x : State) (w : ℕ) where
  -- an action that does not send over the wire gives it nothing
  no_value_given : (b : Action) → sends_over w b ≡ false → action_carried c.results.net c.board.wires x b w ≡ None
  no_value_given (action.Input chip register net) h = refl
  no_value_given (action.Load chip register) h = refl
  no_value_given (action.Write chip mem port) h = refl
  no_value_given (action.Read chip mem port) h = refl
  no_value_given (action.Send wire net register) h =
      ap (λ b. if b then option_map (λ ends. net_value c.results.net x ends.from.place net.place) (slice_get c.board.wires w) else None) h

  -- one that does gives it the value of its net
  value_given : (wire : WireId) (net : ChipNetId) (register : RegId) (ends : Wire) → slice_get c.board.wires wire.place ≡ Some ends → wire.place ≡ w
      → action_carried c.results.net c.board.wires x (action.Send wire net register) w ≡ Some (net_value c.results.net x ends.from.place net.place)
  value_given wire net register ends at same =
      ap (λ b. if b then option_map (λ ends. net_value c.results.net x ends.from.place net.place) (slice_get c.board.wires w) else None) (same_number wire.place w same)
      ∙ ap (option_map (λ (ends : Wire). net_value c.results.net x ends.from.place net.place)) (ap (slice_get c.board.wires) (sym same) ∙ at)

module _ (c : Case) (frame slot : ℕ) (fit : FrameFits c frame) (inside : NodeId → Bool) (v w : Valuation) (s : MarkState) (x : State)
    (old : StateTrue c frame slot v w s x) (nets : NetsTrue c.design c.results inside v w s x)
    (a : Timed) (wire : WireId) (net : ChipNetId) (register : RegId) (ends : Wire)
    (there : Contains (timed_actions (frame_slots c.results frame)) a) (is : a.action ≡ action.Send wire net register) (at : slice_get c.board.wires wire.place ≡ Some ends)
    (on_way : is_on_its_way c.board.wires (suc slot) a ≡ true) where
  -- the marks that an action gives to the wire
  abbrev marks_given : Action → Option Mark
  marks_given b = action_carried_mark c.design c.results c.board.wires inside s b wire.place

  -- the value that it gives to it
  abbrev values_given : Action → Option Bool
  values_given b = action_carried c.results.net c.board.wires x b wire.place

  -- what the wire carries after the slot bears a true mark
  abbrev IsTrue : Option Mark → Option Bool → Type 0
  IsTrue o q =
      IsTrueOf c.design v w (subject c.results ends.from.place net.place) (unwrap_or o (s.carried wire.place)) (unwrap_or q (x.carried wire.place))

  -- to show it of what is given, show it of what that is
  as_given : (o m : Option Mark) (q b : Option Bool) → o ≡ m → q ≡ b → IsTrue m b → IsTrue o q
  as_given o m q b same_mark same_value h =
      subst (λ (o : Option Mark). IsTrue o q) (sym same_mark) (subst (λ (q : Option Bool). IsTrue m q) (sym same_value) h)

  -- by whether the `send` stands in the slot or before it
  by_slot : (a.slot ≡ slot) ⊎ (a.slot < slot) → IsTrue (first_given marks_given (slot_actions c frame slot)) (first_given values_given (slot_actions c frame slot))
  by_slot (inl same) =
      as_given (first_given marks_given (slot_actions c frame slot)) (Some (net_mark c.design c.results inside s ends.from.place net.place))
      (first_given values_given (slot_actions c frame slot)) (Some (net_value c.results.net x ends.from.place net.place))
      (sent_now c frame fit slot a wire net register ends there is at on_way marks_given (no_mark_given c inside s wire.place) same ∙ mark_given c inside s wire.place wire net register ends at refl)
      (sent_now c frame fit slot a wire net register ends there is at on_way values_given (no_value_given c x wire.place) same ∙ value_given c x wire.place wire net register ends at refl)
      (nets ends.from.place net.place)
  by_slot (inr less) =
      as_given (first_given marks_given (slot_actions c frame slot)) None (first_given values_given (slot_actions c frame slot)) None
      (sent_before c frame fit slot a wire net register ends there is at on_way marks_given (no_mark_given c inside s wire.place) less)
      (sent_before c frame fit slot a wire net register ends there is at on_way values_given (no_value_given c x wire.place) less)
      (old.flights a wire net register ends there is at (still_on_way slot (slots_taken c.board.wires a.action) a.slot less on_way))

  -- what is on its way at the end of a slot bears true marks
  pub carried_true : IsTrue (first_given marks_given (slot_actions c frame slot)) (first_given values_given (slot_actions c frame slot))
  carried_true = by_slot (now_or_before a.slot slot (left _ _ on_way))
