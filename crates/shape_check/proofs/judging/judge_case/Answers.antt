-- The first rule that fails is told with its least place.
use Rattle.std.proofs.Common.{arith}
use Rattle.shape_check.proofs.Ordered.{accepts, none_before, one_more, rejects}
use Rattle.shape_check.proofs.judging.judge_case.Goals as goal

pub each-init : goal.each-init
each-init c = none_before c.args.case.now 1 (omega arith)

pub each-preserved : goal.each-preserved
each-preserved c =
    one_more c.args.case.now c.each.k _ c.rule_at-rule.result c.in_ok-place.field-0 c.rule_at-rule.ensures (omega arith) c.each.invariant c.in_ok-place.ensures c.in_default.is

pub returns-in-Some : goal.returns-in-Some
returns-in-Some c =
    rejects c.args.case.now c.each.k c.rule_at-rule.result c.in_ok-place.field-0 c.in-Some.place c.rule_at-rule.ensures c.each-test.true c.each.invariant c.in_ok-place.ensures c.in-Some.is

pub returns : goal.returns
returns c = accepts c.args.case.now c.each.k c.each-test.false c.each.invariant
