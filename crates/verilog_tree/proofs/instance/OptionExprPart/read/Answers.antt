use Rattle.std.proofs.Common.{rules, arith, sym, ◌∙◌}
use Rattle.verilog_tree.specs.Grammar as grammar
use Rattle.verilog_tree.specs.Grammar.{IsExpr, Optional}
use Rattle.verilog_tree.proofs.Due.{follow, halted}
use Rattle.verilog_tree.proofs.Begins.{place_absent, place_begins}
use Rattle.verilog_tree.proofs.instance.OptionExprPart.read.Goals as goal

pub returns-then-not-starts_expr : goal.returns-then-not-starts_expr
returns-then-not-starts_expr c =
    record { stands = grammar.absent _; goes = place_absent _ _ (sym c.starts_expr.ensures ∙ c.if-not-starts_expr.true); forward = omega arith; inside = c.requires }

pub returns-in_err-expr : goal.returns-in_err-expr
returns-in_err-expr c =
    halted (Optional (IsExpr c.args.reader.now)) c.from_residual.result c.from_residual.ensures
    (place_begins _ _ (sym c.starts_expr.ensures ∙ c.if-not-starts_expr.false)) c.in_err-expr.ensures

pub returns : goal.returns
returns c = record {
  stands = grammar.present _ _ _ c.in_ok-expr.ensures.stands;
  goes = follow (place_begins _ _ (sym c.starts_expr.ensures ∙ c.if-not-starts_expr.false)) c.in_ok-expr.ensures.goes;
  forward = c.in_ok-expr.ensures.forward;
  inside = c.in_ok-expr.ensures.inside;
}
