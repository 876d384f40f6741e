-- What actions put on wires.
use Rattle.std.proofs.Common.{◌≡◌, ◌<◌, ◌+◌, ℕ, List, ◌∷◌, drop, set, get_or, length, sym, ap, subst, ◌∙◌, inl, inr, if◌then◌else◌, arith}
use Rattle.std.specs.Prelude.{◌==◌, ◌⊎◌, Some, None, slice_get, unwrap_or, option_map}
use Rattle.std.proofs.lemmas.Bool.{cases_eq}
use Rattle.std.proofs.lemmas.List.{get_or-set_same, get_or-set_other}
use Rattle.std.proofs.lemmas.Option.{slice_get_within}
use Rattle.id_arena.specs.declared.keys.ChipNetId.{ChipNetId}
use Rattle.id_arena.specs.declared.keys.RegId.{RegId}
use Rattle.id_arena.specs.declared.keys.WireId.{WireId}
use Rattle.id_arena.specs.declared.wire.Wire.{Wire}
use Rattle.design_core.specs.declared.parts.Parts.{Parts}
use Rattle.chip_pass.specs.Chips.{ChipState}
use Rattle.emu_machine.specs.declared.schedule.Action.{Action}
use Rattle.emu_machine.specs.declared.schedule.Action.TheVariants.{Send}
use Rattle.emu_machine.specs.Results.{Results}
use Rattle.emu_machine.specs.Netlist.{chip_at}
use Rattle.emu_machine.specs.State.{first_given}
use Rattle.emu_machine.specs.Marks.{Mark, no_mark, net_mark, action_carried_mark}
use Rattle.facts.proofs.Tests.{same_number}
use Rattle.frame_marks.specs.Frames.{mark_in}
use Rattle.frame_marks.specs.Tables.{AreChipTables, nets_in}
use Rattle.frame_marks.specs.Takes.{IsCarrying, SendsOne, SendsAll}
use Rattle.frame_marks.proofs.Gifts.{first_of_two, split_at}
use Rattle.frame_marks.proofs.Giving.{is_other}
use Rattle.frame_marks.proofs.Numbers.{nets_are}

module _ (p : Parts) (r : Results) (wires : List Wire) (chips : List (ChipState Mark)) (tables : AreChipTables r chips) where
  pub one_sent : (wire : WireId) (net : ChipNetId) (register : RegId) (ends : Wire) → slice_get wires wire.place ≡ Some ends
      → net.place < nets_in chips ends.from.place → (before : List Mark) → length before ≡ length wires
      → (mark : Mark) → mark ≡ mark_in chips ends.from.place net.place
      → (after : List Mark) → after ≡ set before wire.place mark → SendsOne p r wires chips (Send wire net register) before after
  one_sent wire net register ends at low before size mark is after put inside s hold =
      subst (λ some. IsCarrying (action_carried_mark p r wires inside s (Send wire net register)) before some) (sym put) (λ w. go w (cases_eq wire.place w))
    where
      within : wire.place < length wires
      within = slice_get_within wires wire.place ends at

      nets : net.place < (chip_at r.net ends.from.place).nets
      nets = let same : nets_in chips ends.from.place ≡ (chip_at r.net ends.from.place).nets = nets_are r chips tables ends.from.place in omega (arith, same, low)

      go : (w : ℕ) → (wire.place ≡ w) ⊎ (wire.place ≡ w → ⊥)
          → get_or (set before wire.place mark) w no_mark
          ≡ unwrap_or (if wire.place == w then option_map (λ (ends : Wire). net_mark p r inside s ends.from.place net.place) (slice_get wires w) else None) (get_or before w no_mark)
      go w (inl same) =
          ap (λ (k : ℕ). get_or (set before wire.place mark) k no_mark) (sym same)
          ∙ get_or-set_same before wire.place mark no_mark (let low_w : wire.place < length before = omega (arith, size, within) in low_w)
          ∙ is
          ∙ hold ends.from.place net.place nets
          ∙ sym (ap (λ b. unwrap_or (if b then option_map (λ (ends : Wire). net_mark p r inside s ends.from.place net.place) (slice_get wires w) else None) (get_or before w no_mark)) (same_number wire.place w same)
          ∙ ap (λ o. unwrap_or (option_map (λ (ends : Wire). net_mark p r inside s ends.from.place net.place) o) (get_or before w no_mark)) (ap (slice_get wires) (sym same) ∙ at))
      go w (inr other) =
          get_or-set_other before wire.place w mark no_mark (λ e. other (sym e))
          ∙ sym (ap (λ b. unwrap_or (if b then option_map (λ (ends : Wire). net_mark p r inside s ends.from.place net.place) (slice_get wires w) else None) (get_or before w no_mark)) (is_other wire.place w other))

module _ (p : Parts) (r : Results) (wires : List Wire) (chips : List (ChipState Mark)) where
  pub more_sent : (actions : List Action) (k left : ℕ) → left ≡ k + 1 → (action : Action) → slice_get actions k ≡ Some action
      → (before carried after : List Mark) → SendsAll p r wires chips (drop left actions) before carried → SendsOne p r wires chips action carried after
      → SendsAll p r wires chips (drop k actions) before after
  more_sent actions k left next action at before carried after rest one =
      subst (λ (some : List Action). SendsAll p r wires chips some before after) (sym (split_at actions k left next action at)) step
    where
      step : SendsAll p r wires chips (action ∷ drop left actions) before after
      step inside s hold w =
          one inside s hold w
          ∙ ap (unwrap_or (action_carried_mark p r wires inside s action w)) (rest inside s hold w)
          ∙ first_of_two (action_carried_mark p r wires inside s action w)
          (first_given (λ a. action_carried_mark p r wires inside s a w) (drop left actions))
          (get_or before w no_mark)

  pub all_sent : (actions : List Action) (left : ℕ) → left ≡ 0 → (before after : List Mark)
      → SendsAll p r wires chips (drop left actions) before after → SendsAll p r wires chips actions before after
  all_sent actions left none before after h =
      subst (λ (k : ℕ). SendsAll p r wires chips (drop k actions) before after) none h
