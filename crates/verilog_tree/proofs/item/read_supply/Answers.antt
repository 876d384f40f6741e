use Rattle.std.proofs.Common.{arith, refl}
use Rattle.verilog_tree.specs.Grammar as grammar
use Rattle.verilog_tree.specs.Grammar.{IsItem}
use Rattle.verilog_tree.proofs.Due.{follow, halted, halted_all, passes, stays}
use Rattle.verilog_tree.proofs.item.read_supply.Goals as goal

pub returns-in_err-range : goal.returns-in_err-range
returns-in_err-range c =
    halted (λ _ n i. IsItem c.args.reader.now c.args.at n i) c.from_residual.result c.from_residual.ensures stays c.in_err-range.ensures

pub returns-in_err-names : goal.returns-in_err-names
returns-in_err-names c =
    halted_all (λ _ n i. IsItem c.args.reader.now c.args.at n i) c.from_residual-in_err-names.result c.from_residual-in_err-names.ensures
    (passes stays c.in_ok-range.ensures.goes) c.in_err-names.ensures

pub returns : goal.returns
returns c = record {
  stands = grammar.supply_item _ _ _ _ _ _ _ _ (record { here = c.requires.begun; after = refl }) c.in_ok-range.ensures.stands c.in_ok-names.ensures.stands.stands c.in_ok-names.ensures.stands.ends;
  goes = follow (passes stays c.in_ok-range.ensures.goes) c.in_ok-names.ensures.goes;
  forward = omega (arith, c.in_ok-range.ensures.forward, c.in_ok-names.ensures.forward);
  inside = c.in_ok-names.ensures.inside;
}
