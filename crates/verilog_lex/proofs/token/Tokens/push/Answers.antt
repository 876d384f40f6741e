use Rattle.std.proofs.Common.{◌++◌, ◌∷◌, [], ap, ◌∙◌}
use Rattle.verilog_lex.proofs.Rows.{pushed}
use Rattle.verilog_lex.proofs.token.Tokens.push.Goals as goal

pub returns-clause-ok : goal.returns-clause-ok
returns-clause-ok c =
    let tokens = pushed c.self.inside.constants c.self.inside.rows c.args.token c.self.invariant in
    rw c.in_default.ensures.ok (rw c.in_ok-push.ensures.ok (rw c.new.ensures (rw c.len-place.ensures (tokens ∙ ap (λ ts. ts ++ c.args.token ∷ []) c.self.view_is))))
