use Rattle.std.proofs.Common.{rules, arith}
use Rattle.verilog_tree.specs.Predict.{Extends}
use Rattle.verilog_tree.proofs.Gathering.{rest_first, rest_next, more_answered, next_answered, gathers_end, separates, closes}
use Rattle.verilog_tree.proofs.part.read_rest.Goals as goal

pub continues-requires-clause-within : goal.continues-requires-clause-within
continues-requires-clause-within g c = c.items.invariant.inside

pub items-init : goal.items-init
items-init g c = rest_first g.P.Part.symbol c.args.end (g.P.Part.stands c.args.reader.now) _ _ c.requires.within

pub returns-in_err-continues : goal.returns-in_err-continues
returns-in_err-continues g c =
    let f = c.from_residual.ensures in
    more_answered _ g.P.Part.symbol c.args.end _ (Extends c.args.reader.now (g.P.Part.stands c.args.reader.now) c.args.first) c.from_residual.result _ f.0 f.1 c.items.invariant c.in_err-continues.ensures.ended

pub returns-in_err-item : goal.returns-in_err-item
returns-in_err-item g c =
    let f = c.from_residual-in_err-item.ensures in
    next_answered _ g.P.Part.symbol c.args.end _ (Extends c.args.reader.now (g.P.Part.stands c.args.reader.now) c.args.first) c.from_residual-in_err-item.result _ f.0 f.1 c.items.invariant (separates _ _ _ _ c.if-branch.true c.in_ok-continues.ensures.ended) c.in_err-item.ensures

pub items-preserved : goal.items-preserved
items-preserved g c =
    rest_next _ c.in_ok-push.ensures.ok c.items.invariant (separates _ _ _ _ c.if-branch.true c.in_ok-continues.ensures.ended) c.in_ok-item.ensures

pub returns : goal.returns
returns g c = gathers_end c.items.invariant (closes _ _ _ _ c.if-branch.false c.in_ok-continues.ensures.ended)
