use Rattle.std.proofs.Common.{rules, arith}
use Rattle.verilog_tree.specs.declared.terminal.Terminal.TheVariants.{CloseBrace}
use Rattle.verilog_tree.specs.Grammar.{IsExpr, IsParts}
use Rattle.verilog_tree.specs.Predict.{expr}
use Rattle.verilog_tree.proofs.Due.{answered}
use Rattle.verilog_tree.proofs.Expressions.{expr_constant, join_read, repeat_read, repeat_close, parts_first, parts_next}
use Rattle.verilog_tree.proofs.Gathering.{first_answered, more_answered, next_answered, gathers_end, separates, closes}
use Rattle.verilog_tree.proofs.expression.+expressions.Goals as goal

pub read_brace-returns-in_default : goal.read_brace-returns-in_default
read_brace-returns-in_default t c = join_read _ _ _ _ c.requires.opened (search rules) c.in_ok-parts.ensures

pub read_brace-returns-in_err-next : goal.read_brace-returns-in_err-next
read_brace-returns-in_err-next t c =
    let f = c.from_residual-in_err-next.ensures in
    answered (λ _ n e. IsExpr c.args.reader.now c.args.start n e) c.from_residual-in_err-next.result _ f.0 f.1 (repeat_close _ _ c.in-Some-Number.count _ _ _ _ (search rules) c.in_ok-inner.ensures c.in_ok-parts-2.ensures c.in_err-next.ensures)

pub read_brace-returns : goal.read_brace-returns
read_brace-returns t c = repeat_read _ _ _ _ _ _ _ c.requires.opened (search rules) c.in_ok-inner.ensures c.in_ok-parts-2.ensures c.in_ok-next.ensures

pub read_expr-returns-in-Some-Constant : goal.read_expr-returns-in-Some-Constant
read_expr-returns-in-Some-Constant t c = expr_constant _ _ (search rules)

pub read_parts-continues-requires-clause-within : goal.read_parts-continues-requires-clause-within
read_parts-continues-requires-clause-within t c = c.parts.invariant.inside

pub read_parts-parts-init : goal.read_parts-parts-init
read_parts-parts-init t c = parts_first c.new-parts.ensures c.in_ok-push.ensures.ok c.in_ok-first.ensures

pub read_parts-returns-in_err-first : goal.read_parts-returns-in_err-first
read_parts-returns-in_err-first t c = let f = c.from_residual.ensures in first_answered _ expr CloseBrace _ (IsParts c.args.reader.now) c.from_residual.result _ f.0 f.1 c.in_err-first.ensures

pub read_parts-returns-in_err-continues : goal.read_parts-returns-in_err-continues
read_parts-returns-in_err-continues t c =
    let f = c.from_residual-in_err-continues.ensures in
    more_answered _ expr CloseBrace _ (IsParts c.args.reader.now) c.from_residual-in_err-continues.result _ f.0 f.1 c.parts.invariant c.in_err-continues.ensures.ended

pub read_parts-returns-in_err-part : goal.read_parts-returns-in_err-part
read_parts-returns-in_err-part t c =
    let f = c.from_residual-in_err-part.ensures in
    next_answered _ expr CloseBrace _ (IsParts c.args.reader.now) c.from_residual-in_err-part.result _ f.0 f.1 c.parts.invariant (separates _ _ _ _ c.if-branch.true c.in_ok-continues.ensures.ended) c.in_err-part.ensures

pub read_parts-parts-preserved : goal.read_parts-parts-preserved
read_parts-parts-preserved t c =
    parts_next c.in_ok-push-2.ensures.ok c.parts.invariant (separates _ _ _ _ c.if-branch.true c.in_ok-continues.ensures.ended) c.in_ok-part.ensures

pub read_parts-returns : goal.read_parts-returns
read_parts-returns t c = gathers_end c.parts.invariant (closes _ _ _ _ c.if-branch.false c.in_ok-continues.ensures.ended)
