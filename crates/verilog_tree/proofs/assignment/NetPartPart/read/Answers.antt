use Rattle.std.proofs.Common.{arith}
use Rattle.verilog_tree.specs.Grammar as grammar
use Rattle.verilog_tree.specs.Grammar.{IsNet}
use Rattle.verilog_tree.proofs.Due.{halted, passes}
use Rattle.verilog_tree.proofs.Begins.{net_begins}
use Rattle.verilog_tree.proofs.assignment.NetPartPart.read.Goals as goal

pub returns-in_err-after : goal.returns-in_err-after
returns-in_err-after c = halted (IsNet c.args.reader.now) c.from_residual.result c.from_residual.ensures net_begins c.in_err-after.ensures

pub returns-in_err-value : goal.returns-in_err-value
returns-in_err-value c =
    halted (IsNet c.args.reader.now) c.from_residual-in_err-value.result c.from_residual-in_err-value.ensures
    (passes net_begins c.in_ok-after.ensures.goes) c.in_err-value.ensures

pub returns : goal.returns
returns c = record {
  stands = grammar.net _ _ _ _ c.in_ok-after.ensures.is c.in_ok-value.ensures.stands;
  goes = passes (passes net_begins c.in_ok-after.ensures.goes) c.in_ok-value.ensures.goes;
  forward = omega (arith, c.in_ok-after.ensures.forward, c.in_ok-value.ensures.forward);
  inside = c.in_ok-value.ensures.inside;
}
