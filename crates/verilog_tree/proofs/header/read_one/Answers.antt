use Rattle.std.proofs.Common.{rules, arith, refl}
use Rattle.verilog_tree.specs.Grammar as grammar
use Rattle.verilog_tree.specs.Grammar.{IsOne}
use Rattle.verilog_tree.proofs.Due.{halted, passes}
use Rattle.verilog_tree.proofs.Begins.{one_begins}
use Rattle.verilog_tree.proofs.Headers.{one_wrong}
use Rattle.verilog_tree.proofs.header.read_one.Goals as goal

pub returns-in_default : goal.returns-in_default
returns-in_default c = one_wrong _ _ c.requires (search rules)

pub returns-in_default-2 : goal.returns-in_default-2
returns-in_default-2 c = one_wrong _ _ c.requires (search rules)

pub returns-in_err-range : goal.returns-in_err-range
returns-in_err-range c =
    halted (IsOne c.args.reader.now) c.from_residual.result c.from_residual.ensures
    (passes (one_begins {d = c.in-Some-Direction.dir} (search rules)) c.skip_wire-after.ensures.goes) c.in_err-range.ensures

pub returns-in_err-next : goal.returns-in_err-next
returns-in_err-next c =
    halted (IsOne c.args.reader.now) c.from_residual-in_err-next.result c.from_residual-in_err-next.ensures
    (passes (passes (one_begins {d = c.in-Some-Direction.dir} (search rules)) c.skip_wire-after.ensures.goes) c.in_ok-range.ensures.goes) c.in_err-next.ensures

pub returns : goal.returns
returns c = record {
  stands = grammar.one _ _ _ _ _ _ _ (record { here = search rules; after = refl }) c.skip_wire-after.ensures.stands c.in_ok-range.ensures.stands c.in_ok-next.ensures.is;
  goes = passes (passes (passes (one_begins {d = c.in-Some-Direction.dir} (search rules)) c.skip_wire-after.ensures.goes) c.in_ok-range.ensures.goes) c.in_ok-next.ensures.goes;
  forward = omega (arith, c.skip_wire-after.ensures.forward, c.in_ok-range.ensures.forward, c.in_ok-next.ensures.forward);
  inside = c.in_ok-next.ensures.inside;
}
