use Rattle.std.proofs.Common.{◌≡◌, rules, arith, refl, Some, slice_get}
use Rattle.verilog_tree.specs.declared.terminal.Terminal.TheVariants.{CloseParen, Dot}
use Rattle.verilog_tree.specs.Grammar as grammar
use Rattle.verilog_tree.specs.Grammar.{IsLinks}
use Rattle.verilog_tree.specs.Predict.{Closed}
use Rattle.verilog_tree.proofs.Due.{follow, halted_all, here_within}
use Rattle.verilog_tree.proofs.Begins.{links_end, links_named, links_ordered}
use Rattle.verilog_tree.proofs.Instances.{not_alone}
use Rattle.verilog_tree.proofs.instance.read_links.Goals as goal
use Rattle.verilog_tree.proofs.instance.read_links.Goals.{in_default-via-in-Some+in_default, in_default-via-in_default}

pub returns-in-Some-CloseParen : goal.returns-in-Some-CloseParen
returns-in-Some-CloseParen c = record {
  stands = record { place = _; stands = grammar.no_links _; ends = record { here = search rules; after = refl } };
  goes = links_end (search rules);
  forward = omega arith;
  inside = here_within _ _ CloseParen (search rules);
}

pub returns-in_err-named-in-Some-Dot : goal.returns-in_err-named-in-Some-Dot
returns-in_err-named-in-Some-Dot c =
    halted_all (Closed c.args.reader.now (IsLinks c.args.reader.now) CloseParen) c.from_residual.result c.from_residual.ensures
    (links_named (search rules)) c.in_err-named-in-Some-Dot.ensures

pub returns-in_ok-named-in-Some-Dot : goal.returns-in_ok-named-in-Some-Dot
returns-in_ok-named-in-Some-Dot c = let r = c.in_ok-named-in-Some-Dot.ensures in record {
  stands = record { place = r.stands.place; stands = grammar.by_name _ _ _ r.stands.stands; ends = r.stands.ends };
  goes = follow (links_named (search rules)) r.goes;
  forward = r.forward;
  inside = r.inside;
}

pub returns-in_err-places-in_default : goal.returns-in_err-places-in_default
returns-in_err-places-in_default c =
    halted_all (Closed c.args.reader.now (IsLinks c.args.reader.now) CloseParen) c.from_residual-in_err-places-in_default.result c.from_residual-in_err-places-in_default.ensures
    (elim c.in_default.branch [
      | in_default-via-in-Some+in_default w ↦ links_ordered c.args.reader.now c.args.from (search rules) (search rules)
      | in_default-via-in_default w ↦ links_ordered c.args.reader.now c.args.from (search rules) (search rules)
    ])
    c.in_err-places-in_default.ensures

pub returns-in_ok-places-in_default : goal.returns-in_ok-places-in_default
returns-in_ok-places-in_default c =
    let r = c.in_ok-places-in_default.ensures in
    let not_close : slice_get c.args.reader.now c.args.from ≡ Some CloseParen → ⊥ =
    elim c.in_default.branch [ in_default-via-in-Some+in_default w ↦ search rules | in_default-via-in_default w ↦ search rules ] in
    let not_dot : slice_get c.args.reader.now c.args.from ≡ Some Dot → ⊥ =
    elim c.in_default.branch [ in_default-via-in-Some+in_default w ↦ search rules | in_default-via-in_default w ↦ search rules ] in
    record {
      stands = record {
        place = r.stands.place;
        stands = grammar.ordered _ _ _ r.stands.stands (not_alone _ _ _ _ not_close r.stands);
        ends = r.stands.ends;
      };
      goes = follow (links_ordered _ _ not_close not_dot) r.goes;
      forward = r.forward;
      inside = r.inside;
    }
