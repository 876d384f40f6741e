use Rattle.std.proofs.Common.{arith}
use Rattle.verilog_tree.specs.Grammar as grammar
use Rattle.verilog_tree.specs.Grammar.{IsModule}
use Rattle.verilog_tree.proofs.Due.{halted, passes}
use Rattle.verilog_tree.proofs.Begins.{module_begins}
use Rattle.verilog_tree.proofs.module.read_module.Goals as goal

pub returns-in_err-name-clause-stands : goal.returns-in_err-name-clause-stands
returns-in_err-name-clause-stands c =
    halted (IsModule c.args.reader.now) c.from_residual.result c.from_residual.ensures
    module_begins c.in_err-name.ensures

pub returns-in_err-after-clause-stands : goal.returns-in_err-after-clause-stands
returns-in_err-after-clause-stands c =
    halted (IsModule c.args.reader.now) c.from_residual-in_err-after.result c.from_residual-in_err-after.ensures
    (passes module_begins c.in_ok-name.ensures.goes) c.in_err-after.ensures

pub returns-in_err-ports-clause-stands : goal.returns-in_err-ports-clause-stands
returns-in_err-ports-clause-stands c =
    halted (IsModule c.args.reader.now) c.from_residual-in_err-ports.result c.from_residual-in_err-ports.ensures
    (passes (passes module_begins c.in_ok-name.ensures.goes) c.in_ok-after.ensures.goes) c.in_err-ports.ensures

pub returns-in_err-body-clause-stands : goal.returns-in_err-body-clause-stands
returns-in_err-body-clause-stands c =
    halted (IsModule c.args.reader.now) c.from_residual-in_err-body.result c.from_residual-in_err-body.ensures
    (passes (passes (passes module_begins c.in_ok-name.ensures.goes) c.in_ok-after.ensures.goes) c.in_ok-ports.ensures.goes) c.in_err-body.ensures

pub returns-in_err-items-clause-stands : goal.returns-in_err-items-clause-stands
returns-in_err-items-clause-stands c =
    halted (IsModule c.args.reader.now) c.from_residual-in_err-items.result c.from_residual-in_err-items.ensures
    (passes (passes (passes (passes module_begins c.in_ok-name.ensures.goes) c.in_ok-after.ensures.goes) c.in_ok-ports.ensures.goes) c.in_ok-body.ensures.goes) c.in_err-items.ensures

pub returns : goal.returns
returns c = record {
  stands = record {
    stands = grammar.module_ _ _ _ _ _ _ _ _ _ c.in_ok-name.ensures.is c.in_ok-after.ensures.is c.in_ok-ports.ensures.stands c.in_ok-body.ensures.is c.in_ok-items.ensures.stands.stands c.in_ok-items.ensures.stands.ends;
    goes = passes (passes (passes (passes (passes module_begins c.in_ok-name.ensures.goes) c.in_ok-after.ensures.goes) c.in_ok-ports.ensures.goes) c.in_ok-body.ensures.goes) c.in_ok-items.ensures.goes;
    forward = omega (arith, c.in_ok-name.ensures.forward, c.in_ok-after.ensures.forward, c.in_ok-ports.ensures.forward, c.in_ok-body.ensures.forward, c.in_ok-items.ensures.forward);
    inside = c.in_ok-items.ensures.inside;
  };
  further = omega (arith, c.in_ok-name.ensures.is.after, c.in_ok-name.ensures.forward, c.in_ok-after.ensures.forward, c.in_ok-ports.ensures.forward, c.in_ok-body.ensures.forward, c.in_ok-items.ensures.forward);
}
