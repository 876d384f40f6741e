use Rattle.std.proofs.Common.{rules, arith}
use Rattle.verilog_tree.specs.declared.terminal.Terminal.TheVariants.{CloseBrace}
use Rattle.verilog_tree.specs.Grammar.{IsLefts}
use Rattle.verilog_tree.specs.Predict.{left}
use Rattle.verilog_tree.proofs.Lefts.{left_read, parts_first, parts_next}
use Rattle.verilog_tree.proofs.Gathering.{first_answered, more_answered, next_answered, gathers_end, separates, closes}
use Rattle.verilog_tree.proofs.expression.+lefts.Goals as goal

pub read_left-returns-in_ok-parts-in-Some-OpenBrace : goal.read_left-returns-in_ok-parts-in-Some-OpenBrace
read_left-returns-in_ok-parts-in-Some-OpenBrace t c = left_read _ _ _ _ (search rules) c.in_ok-parts-in-Some-OpenBrace.ensures

pub read_lefts-continues-requires-clause-within : goal.read_lefts-continues-requires-clause-within
read_lefts-continues-requires-clause-within t c = c.parts.invariant.inside

pub read_lefts-parts-init : goal.read_lefts-parts-init
read_lefts-parts-init t c = parts_first c.new-parts.ensures c.in_ok-push.ensures.ok c.in_ok-first.ensures

pub read_lefts-returns-in_err-first : goal.read_lefts-returns-in_err-first
read_lefts-returns-in_err-first t c = let f = c.from_residual.ensures in first_answered _ left CloseBrace _ (IsLefts c.args.reader.now) c.from_residual.result _ f.0 f.1 c.in_err-first.ensures

pub read_lefts-returns-in_err-continues : goal.read_lefts-returns-in_err-continues
read_lefts-returns-in_err-continues t c =
    let f = c.from_residual-in_err-continues.ensures in
    more_answered _ left CloseBrace _ (IsLefts c.args.reader.now) c.from_residual-in_err-continues.result _ f.0 f.1 c.parts.invariant c.in_err-continues.ensures.ended

pub read_lefts-returns-in_err-part : goal.read_lefts-returns-in_err-part
read_lefts-returns-in_err-part t c =
    let f = c.from_residual-in_err-part.ensures in
    next_answered _ left CloseBrace _ (IsLefts c.args.reader.now) c.from_residual-in_err-part.result _ f.0 f.1 c.parts.invariant (separates _ _ _ _ c.if-branch.true c.in_ok-continues.ensures.ended) c.in_err-part.ensures

pub read_lefts-parts-preserved : goal.read_lefts-parts-preserved
read_lefts-parts-preserved t c =
    parts_next c.in_ok-push-2.ensures.ok c.parts.invariant (separates _ _ _ _ c.if-branch.true c.in_ok-continues.ensures.ended) c.in_ok-part.ensures

pub read_lefts-returns : goal.read_lefts-returns
read_lefts-returns t c = gathers_end c.parts.invariant (closes _ _ _ _ c.if-branch.false c.in_ok-continues.ensures.ended)
