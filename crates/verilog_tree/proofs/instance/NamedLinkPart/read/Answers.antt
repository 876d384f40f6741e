use Rattle.std.proofs.Common.{arith}
use Rattle.verilog_tree.specs.Grammar as grammar
use Rattle.verilog_tree.specs.Grammar.{IsLink}
use Rattle.verilog_tree.proofs.Due.{halted, passes}
use Rattle.verilog_tree.proofs.Begins.{link_begins}
use Rattle.verilog_tree.proofs.instance.NamedLinkPart.read.Goals as goal

pub returns-in_err-port : goal.returns-in_err-port
returns-in_err-port c = halted (IsLink c.args.reader.now) c.from_residual.result c.from_residual.ensures link_begins c.in_err-port.ensures

pub returns-in_err-after : goal.returns-in_err-after
returns-in_err-after c =
    halted (IsLink c.args.reader.now) c.from_residual-in_err-after.result c.from_residual-in_err-after.ensures
    (passes link_begins c.in_ok-port.ensures.goes) c.in_err-after.ensures

pub returns-in_err-open : goal.returns-in_err-open
returns-in_err-open c =
    halted (IsLink c.args.reader.now) c.from_residual-in_err-open.result c.from_residual-in_err-open.ensures
    (passes (passes link_begins c.in_ok-port.ensures.goes) c.in_ok-after.ensures.goes) c.in_err-open.ensures

pub returns-in_err-expr : goal.returns-in_err-expr
returns-in_err-expr c =
    halted (IsLink c.args.reader.now) c.from_residual-in_err-expr.result c.from_residual-in_err-expr.ensures
    (passes (passes (passes link_begins c.in_ok-port.ensures.goes) c.in_ok-after.ensures.goes) c.in_ok-open.ensures.goes) c.in_err-expr.ensures

pub returns-in_err-next : goal.returns-in_err-next
returns-in_err-next c =
    halted (IsLink c.args.reader.now) c.from_residual-in_err-next.result c.from_residual-in_err-next.ensures
    (passes (passes (passes (passes link_begins c.in_ok-port.ensures.goes) c.in_ok-after.ensures.goes) c.in_ok-open.ensures.goes) c.in_ok-expr.ensures.goes)
    c.in_err-next.ensures

pub returns : goal.returns
returns c = record {
  stands = grammar.link _ _ _ _ _ _ _ c.in_ok-port.ensures.is c.in_ok-after.ensures.is c.in_ok-open.ensures.is c.in_ok-expr.ensures.stands c.in_ok-next.ensures.is;
  goes = passes (passes (passes (passes (passes link_begins c.in_ok-port.ensures.goes) c.in_ok-after.ensures.goes) c.in_ok-open.ensures.goes) c.in_ok-expr.ensures.goes)
      c.in_ok-next.ensures.goes;
  forward = omega (arith, c.in_ok-port.ensures.forward, c.in_ok-after.ensures.forward, c.in_ok-open.ensures.forward, c.in_ok-expr.ensures.forward, c.in_ok-next.ensures.forward);
  inside = c.in_ok-next.ensures.inside;
}
