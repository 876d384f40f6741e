use Rattle.std.proofs.Common.{arith}
use Rattle.verilog_tree.specs.Grammar as grammar
use Rattle.verilog_tree.specs.Grammar.{IsInst}
use Rattle.verilog_tree.proofs.Due.{halted, passes}
use Rattle.verilog_tree.proofs.Begins.{inst_begins}
use Rattle.verilog_tree.proofs.instance.InstPart.read.Goals as goal

pub returns-in_err-after : goal.returns-in_err-after
returns-in_err-after c = halted (IsInst c.args.reader.now) c.from_residual.result c.from_residual.ensures inst_begins c.in_err-after.ensures

pub returns-in_err-open : goal.returns-in_err-open
returns-in_err-open c =
    halted (IsInst c.args.reader.now) c.from_residual-in_err-open.result c.from_residual-in_err-open.ensures
    (passes inst_begins c.in_ok-after.ensures.goes) c.in_err-open.ensures

pub returns-in_err-links : goal.returns-in_err-links
returns-in_err-links c =
    halted (IsInst c.args.reader.now) c.from_residual-in_err-links.result c.from_residual-in_err-links.ensures
    (passes (passes inst_begins c.in_ok-after.ensures.goes) c.in_ok-open.ensures.goes) c.in_err-links.ensures

pub returns : goal.returns
returns c = record {
  stands = grammar.inst _ _ _ _ _ _ c.in_ok-after.ensures.is c.in_ok-open.ensures.is c.in_ok-links.ensures.stands.stands c.in_ok-links.ensures.stands.ends;
  goes = passes (passes (passes inst_begins c.in_ok-after.ensures.goes) c.in_ok-open.ensures.goes) c.in_ok-links.ensures.goes;
  forward = omega (arith, c.in_ok-after.ensures.forward, c.in_ok-open.ensures.forward, c.in_ok-links.ensures.forward);
  inside = c.in_ok-links.ensures.inside;
}
