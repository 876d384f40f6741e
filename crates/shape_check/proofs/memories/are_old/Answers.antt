-- Nets are taken one by one.
use Rattle.std.proofs.Common.{sym, ◌∙◌, ℕ}
use Rattle.id_arena.specs.declared.keys.ChipNetId.{ChipNetId}
use Rattle.emu_machine.specs.declared.map.Subject.TheVariants.{Old}
use Rattle.emu_machine.specs.Origins.{has_subject}
use Rattle.shape_check.proofs.Subjects.{goes_on, next_element, stops}
use Rattle.shape_check.proofs.memories.are_old.Goals as goal

pub returns-then-not-has_subject : goal.returns-then-not-has_subject
returns-then-not-has_subject c =
    stops _ _ _ _ c.each.invariant
    (next_element (λ (j : ℕ) (n : ChipNetId). has_subject c.args.case.now.results c.args.chip.place n (Old c.args.of c.args.number j)) c.args.nets.now c.each.bit _ c.each-test.true)
    (sym c.has_subject.ensures ∙ c.if-not-has_subject.true)

pub each-preserved : goal.each-preserved
each-preserved c =
    goes_on _ _ _ _ c.each.invariant
    (next_element (λ (j : ℕ) (n : ChipNetId). has_subject c.args.case.now.results c.args.chip.place n (Old c.args.of c.args.number j)) c.args.nets.now c.each.bit _ c.each-test.true)
    (sym c.has_subject.ensures ∙ c.if-not-has_subject.false)
