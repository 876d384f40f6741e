use Rattle.std.proofs.Common.{ap, sym, ◌∙◌}
use Rattle.elaborator.specs.Sockets.{name_at}
use Rattle.elaborator.proofs.Naming.{name_of, row_named}
use Rattle.elaborator.proofs.sockets.Sockets.name.Goals as goal

pub text-requires : goal.text-requires
text-requires c = row_named c.self.inside.names c.self.inside.firsts c.self.inside.rows c.args.place c.get.result.now c.self.invariant c.get.ensures

pub returns : goal.returns
returns c =
    ap (λ sockets. name_at sockets c.args.place) (sym c.self.view_is)
    ∙ name_of c.self.inside.names c.self.inside.rows c.args.place c.get.result.now c.text.result.now c.get.ensures c.text.ensures.text
