-- Nets of the chip and of the design are taken one by one.
use Rattle.std.proofs.Common.{refl, sym, ◌∙◌, ◌<◌, arith, length}
use Rattle.shape_check.proofs.Subjects.{goes_on, next_net, stops, unequal_nets}
use Rattle.shape_check.proofs.gates.are_nets.Goals as goal

pub returns-then-nets-of : goal.returns-then-nets-of
returns-then-nets-of c = unequal_nets c.args.case.now.results c.args.chip.place c.args.nets.now c.args.of.now c.if-nets-of.true

pub returns-then-not-has_subject : goal.returns-then-not-has_subject
returns-then-not-has_subject c =
    let less : c.each.i < length c.args.of.now = omega (arith, c.if-nets-of.false, c.each-test.true) in
    stops _ _ _ _ c.each.invariant (next_net c.args.case.now.results c.args.chip.place c.args.nets.now c.args.of.now c.each.i _ _ _ c.each-test.true less refl) (sym c.has_subject.ensures ∙ c.if-not-has_subject.true)

pub each-preserved : goal.each-preserved
each-preserved c =
    let less : c.each.i < length c.args.of.now = omega (arith, c.if-nets-of.false, c.each-test.true) in
    goes_on _ _ _ _ c.each.invariant (next_net c.args.case.now.results c.args.chip.place c.args.nets.now c.args.of.now c.each.i _ _ _ c.each-test.true less refl) (sym c.has_subject.ensures ∙ c.if-not-has_subject.false)
