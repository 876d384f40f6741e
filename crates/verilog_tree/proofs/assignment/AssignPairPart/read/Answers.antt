use Rattle.std.proofs.Common.{arith}
use Rattle.verilog_tree.specs.Grammar as grammar
use Rattle.verilog_tree.specs.Grammar.{IsPair}
use Rattle.verilog_tree.proofs.Due.{halted, passes}
use Rattle.verilog_tree.proofs.Begins.{pair_begins}
use Rattle.verilog_tree.proofs.assignment.AssignPairPart.read.Goals as goal

pub returns-in_err-left : goal.returns-in_err-left
returns-in_err-left c = halted (IsPair c.args.reader.now) c.from_residual.result c.from_residual.ensures pair_begins c.in_err-left.ensures

pub returns-in_err-equals : goal.returns-in_err-equals
returns-in_err-equals c =
    halted (IsPair c.args.reader.now) c.from_residual-in_err-equals.result c.from_residual-in_err-equals.ensures
    (passes pair_begins c.in_ok-left.ensures.goes) c.in_err-equals.ensures

pub returns-in_err-right : goal.returns-in_err-right
returns-in_err-right c =
    halted (IsPair c.args.reader.now) c.from_residual-in_err-right.result c.from_residual-in_err-right.ensures
    (passes (passes pair_begins c.in_ok-left.ensures.goes) c.in_ok-equals.ensures.goes) c.in_err-right.ensures

pub returns : goal.returns
returns c = record {
  stands = grammar.pair _ _ _ _ _ _ c.in_ok-left.ensures.stands c.in_ok-equals.ensures.is c.in_ok-right.ensures.stands;
  goes = passes (passes (passes pair_begins c.in_ok-left.ensures.goes) c.in_ok-equals.ensures.goes) c.in_ok-right.ensures.goes;
  forward = omega (arith, c.in_ok-left.ensures.forward, c.in_ok-equals.ensures.forward, c.in_ok-right.ensures.forward);
  inside = c.in_ok-right.ensures.inside;
}
