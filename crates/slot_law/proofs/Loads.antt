-- What a load of a register with an enable finds at its D and its enable, and what it gives.
use Rattle.std.proofs.Common.{◌≡◌, ℕ, Bool, true, false, subst, sym, ◌∙◌, inl, inr}
use Rattle.std.specs.Prelude.{◌⊎◌, ◌&&◌, Option, Some}
use Rattle.id_arena.specs.declared.keys.NetId.{NetId}
use Rattle.id_arena.specs.declared.keys.ChipNetId.{ChipNetId}
use Rattle.design_core.specs.declared.parts.Parts.{Parts}
use Rattle.design_core.specs.Valuation.{Valuation}
use Rattle.emu_machine.specs.declared.map.Subject.{Subject}
use Rattle.emu_machine.specs.declared.map.Subject.TheVariants.{Net}
use Rattle.emu_machine.specs.Results.{Results}
use Rattle.emu_machine.specs.Mapped.{subject, subject_value}
use Rattle.emu_machine.specs.Marks.{Mark, after_if, has_some}
use Rattle.emu_machine.specs.Origins.{has_subject}
use Rattle.marks_law.specs.Truth.{MarkHolds, IsTrueOf}
use Rattle.facts.proofs.Tests.{no, left, right, either}
use Rattle.marks_law.proofs.Inputs.{of_subject}

-- A register with an enable stands for a net of the design. Its D and its enable stand for what that net takes in
-- the event and for whether it takes it; where it does not, it keeps its value.
pub record TakesUnder (p : Parts) (v w : Valuation) (r : Results) (c : ℕ) (q d enable : ChipNetId) : Type 0 where
  pub net : NetId
  pub feed : Subject
  pub take : Subject
  pub is : subject r c q.place ≡ Some (Net net)
  pub feed_is : has_subject r c d feed ≡ true
  pub take_is : has_subject r c enable take ≡ true
  pub takes : subject_value p v w take ≡ true → w.net net.place ≡ subject_value p v w feed
  pub keeps : subject_value p v w take ≡ false → w.net net.place ≡ v.net net.place

module _ (p : Parts) (v w : Valuation) (r : Results) (chip : ℕ) (q d enable : ChipNetId) (stands : TakesUnder p v w r chip q d enable)
    (mark_d mark_e mark_q : Mark) (value_d value_e held : Bool)
    (true_d : IsTrueOf p v w (subject r chip d.place) mark_d value_d)
    (true_e : IsTrueOf p v w (subject r chip enable.place) mark_e value_e)
    (true_q : IsTrueOf p v w (subject r chip q.place) mark_q held) where
  -- the mark that the load gives
  abbrev loaded : Mark
  loaded = after_if (mark_d.after && mark_e.after && has_some mark_q)

  -- the load gives "after" alone, so that only the value after the event counts
  right_after : (value : Bool) → (loaded.after ≡ true → value ≡ w.net stands.net.place) → IsTrueOf p v w (subject r chip q.place) loaded value
  right_after value h =
      subst (λ (o : Option Subject). IsTrueOf p v w o loaded value) (sym stands.is)
      (record { before = λ a. no a; after = h })

  -- what D shows where it has "after"
  feed_value : mark_d.after ≡ true → value_d ≡ subject_value p v w stands.feed
  feed_value a = (of_subject p v w stands.feed mark_d value_d (subject r chip d.place) stands.feed_is true_d).after a

  -- what the enable shows where it has "after"
  take_value : mark_e.after ≡ true → value_e ≡ subject_value p v w stands.take
  take_value a = (of_subject p v w stands.take mark_e value_e (subject r chip enable.place) stands.take_is true_e).after a

  -- a register that is loaded takes the value after the event
  pub load_taken : value_e ≡ true → IsTrueOf p v w (subject r chip q.place) loaded value_d
  load_taken e =
      right_after value_d
      (λ a. feed_value (left _ _ (left _ _ a)) ∙ sym (stands.takes (sym (take_value (right _ _ (left _ _ a))) ∙ e)))

  -- the mark of the register, as one of the net that it stands for
  of_net : (o : Option Subject) → o ≡ Some (Net stands.net) → IsTrueOf p v w o mark_q held → MarkHolds p v w (Net stands.net) mark_q held
  of_net o e t = subst (λ (o : Option Subject). IsTrueOf p v w o mark_q held) e t

  -- where the register had a mark, it holds the value from before or from after
  old_or_new : has_some mark_q ≡ true → (held ≡ v.net stands.net.place) ⊎ (held ≡ w.net stands.net.place)
  old_or_new a =
      let t : MarkHolds p v w (Net stands.net) mark_q held = of_net (subject r chip q.place) stands.is true_q in
      elim (either mark_q.before mark_q.after a) [ inl k ↦ inl (t.before k) | inr k ↦ inr (t.after k) ]

  -- where the enable is 0, nothing is taken, and either mark tells that the value after the event is held
  pub load_kept : value_e ≡ false → IsTrueOf p v w (subject r chip q.place) loaded held
  load_kept e =
      right_after held
      (λ a.
      let same : w.net stands.net.place ≡ v.net stands.net.place = stands.keeps (sym (take_value (right _ _ (left _ _ a))) ∙ e) in
      elim (old_or_new (right _ _ a)) [ inl k ↦ k ∙ sym same | inr k ↦ k ])
