use Rattle.std.proofs.Common.{rules, arith, [], ◌∷◌, refl}
use Rattle.verilog_tree.specs.Grammar as grammar
use Rattle.verilog_tree.specs.Grammar.{IsValue, Optional}
use Rattle.verilog_tree.specs.Predict.{expr}
use Rattle.verilog_tree.proofs.Due.{halted, passes}
use Rattle.verilog_tree.proofs.Begins.{value_absent, value_begins}
use Rattle.verilog_tree.proofs.assignment.read_value.Goals as goal

pub returns-in_default : goal.returns-in_default
returns-in_default c = record { stands = grammar.absent _; goes = value_absent _ _ (search rules); forward = omega arith; inside = c.requires }

pub returns-in_err-value : goal.returns-in_err-value
returns-in_err-value c = halted (Optional (IsValue c.args.reader.now)) c.from_residual.result c.from_residual.ensures (value_begins (search rules)) c.in_err-value.ensures

pub returns : goal.returns
returns c = record {
  stands = grammar.present _ _ _ (grammar.value _ _ _ _ (record { here = search rules; after = refl }) c.in_ok-value.ensures.stands);
  goes = passes (value_begins (search rules)) c.in_ok-value.ensures.goes;
  forward = omega (arith, c.in_ok-value.ensures.forward);
  inside = c.in_ok-value.ensures.inside;
}
