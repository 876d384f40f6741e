use Rattle.std.proofs.Common.{arith, refl}
use Rattle.verilog_tree.specs.Grammar as grammar
use Rattle.verilog_tree.specs.Grammar.{IsItem}
use Rattle.verilog_tree.proofs.Due.{halted_all, stays}
use Rattle.verilog_tree.proofs.item.read_instances.Goals as goal

pub returns-in_err-insts : goal.returns-in_err-insts
returns-in_err-insts c =
    halted_all (λ _ n i. IsItem c.args.reader.now c.args.at n i) c.from_residual.result c.from_residual.ensures stays c.in_err-insts.ensures

pub returns : goal.returns
returns c = record {
  stands = grammar.instances_item _ _ _ _ _ (record { here = c.requires.begun; after = refl }) c.in_ok-insts.ensures.stands.stands c.in_ok-insts.ensures.stands.ends;
  goes = c.in_ok-insts.ensures.goes;
  forward = c.in_ok-insts.ensures.forward;
  inside = c.in_ok-insts.ensures.inside;
}
