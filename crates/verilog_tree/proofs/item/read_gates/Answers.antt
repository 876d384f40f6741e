use Rattle.std.proofs.Common.{arith, refl}
use Rattle.verilog_tree.specs.Grammar as grammar
use Rattle.verilog_tree.specs.Grammar.{IsItem}
use Rattle.verilog_tree.proofs.Due.{halted_all, stays}
use Rattle.verilog_tree.proofs.item.read_gates.Goals as goal

pub returns-in_err-prims : goal.returns-in_err-prims
returns-in_err-prims c =
    halted_all (λ _ n i. IsItem c.args.reader.now c.args.at n i) c.from_residual.result c.from_residual.ensures stays c.in_err-prims.ensures

pub returns : goal.returns
returns c = record {
  stands = grammar.gates_item _ _ _ _ _ (record { here = c.requires.begun; after = refl }) c.in_ok-prims.ensures.stands.stands c.in_ok-prims.ensures.stands.ends;
  goes = c.in_ok-prims.ensures.goes;
  forward = c.in_ok-prims.ensures.forward;
  inside = c.in_ok-prims.ensures.inside;
}
