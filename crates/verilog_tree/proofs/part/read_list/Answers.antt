use Rattle.std.proofs.Common.{rules}
use Rattle.verilog_tree.specs.Grammar.{Commas}
use Rattle.verilog_tree.proofs.Gathering.{first_answered, list_answers}
use Rattle.verilog_tree.proofs.part.read_list.Goals as goal

pub returns-in_err-first : goal.returns-in_err-first
returns-in_err-first g c =
    let f = c.from_residual.ensures in
    first_answered _ g.P.Part.symbol c.args.end _ (Commas c.args.reader.now (g.P.Part.stands c.args.reader.now)) c.from_residual.result _ f.0 f.1 c.in_err-first.ensures

pub returns : goal.returns
returns g c =
    list_answers _ g.P.Part.symbol c.args.end (g.P.Part.stands c.args.reader.now) _ _ _ _ _ c.read_rest.result
    c.in_ok-items.ensures c.in_ok-push.ensures.ok c.in_ok-first.ensures c.read_rest.ensures
