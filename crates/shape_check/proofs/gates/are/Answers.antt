-- Nets and subjects are taken one by one.
use Rattle.std.proofs.Common.{refl, sym, ◌∙◌, ◌<◌, arith, length}
use Rattle.shape_check.proofs.Subjects.{goes_on, next, stops, unequal}
use Rattle.shape_check.proofs.gates.are.Goals as goal

pub returns-then-nets-subjects : goal.returns-then-nets-subjects
returns-then-nets-subjects c = unequal c.args.case.now.results c.args.chip.place c.args.nets.now c.args.subjects.now c.if-nets-subjects.true

pub returns-then-not-has_subject : goal.returns-then-not-has_subject
returns-then-not-has_subject c =
    let less : c.each.i < length c.args.subjects.now = omega (arith, c.if-nets-subjects.false, c.each-test.true) in
    stops _ _ _ _ c.each.invariant (next c.args.case.now.results c.args.chip.place c.args.nets.now c.args.subjects.now c.each.i _ _ _ c.each-test.true less refl) (sym c.has_subject.ensures ∙ c.if-not-has_subject.true)

pub each-preserved : goal.each-preserved
each-preserved c =
    let less : c.each.i < length c.args.subjects.now = omega (arith, c.if-nets-subjects.false, c.each-test.true) in
    goes_on _ _ _ _ c.each.invariant (next c.args.case.now.results c.args.chip.place c.args.nets.now c.args.subjects.now c.each.i _ _ _ c.each-test.true less refl) (sym c.has_subject.ensures ∙ c.if-not-has_subject.false)
