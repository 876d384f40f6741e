use Rattle.std.proofs.Common.{arith}
use Rattle.verilog_tree.specs.Grammar as grammar
use Rattle.verilog_tree.specs.Grammar.{IsPrim}
use Rattle.verilog_tree.proofs.Due.{halted, halted_all, follow, passes}
use Rattle.verilog_tree.proofs.Begins.{prim_begins}
use Rattle.verilog_tree.proofs.primitive.GatePartPart.read.Goals as goal

pub returns-in_err-open : goal.returns-in_err-open
returns-in_err-open c =
    halted (IsPrim c.args.reader.now) c.from_residual.result c.from_residual.ensures (passes prim_begins c.read_label-label.ensures.goes) c.in_err-open.ensures

pub returns-in_err-terminals : goal.returns-in_err-terminals
returns-in_err-terminals c =
    halted_all (IsPrim c.args.reader.now) c.from_residual-in_err-terminals.result c.from_residual-in_err-terminals.ensures
    (passes (passes prim_begins c.read_label-label.ensures.goes) c.in_ok-open.ensures.goes) c.in_err-terminals.ensures

pub returns : goal.returns
returns c = record {
  stands = grammar.prim _ _ _ _ _ _ _ c.read_label-label.ensures.stands c.in_ok-open.ensures.is c.in_ok-terminals.ensures.stands.stands c.in_ok-terminals.ensures.stands.ends;
  goes = follow (passes (passes prim_begins c.read_label-label.ensures.goes) c.in_ok-open.ensures.goes) c.in_ok-terminals.ensures.goes;
  forward = omega (arith, c.read_label-label.ensures.forward, c.in_ok-open.ensures.forward, c.in_ok-terminals.ensures.forward);
  inside = c.in_ok-terminals.ensures.inside;
}
