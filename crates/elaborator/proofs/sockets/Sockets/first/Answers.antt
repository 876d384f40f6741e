use Rattle.std.proofs.Common.{ap, slice_get, sym, ◌∙◌}
use Rattle.elaborator.specs.Sockets.{first_place_at}
use Rattle.elaborator.proofs.Naming.{first_of}
use Rattle.elaborator.proofs.sockets.Sockets.first.Goals as goal

pub returns : goal.returns
returns c =
    ap (λ sockets. first_place_at sockets c.args.place) (sym c.self.view_is)
    ∙ first_of c.self.inside.names c.self.inside.firsts c.self.inside.rows c.args.place c.get-2.result.now c.get.result.now
    c.self.invariant c.get.ensures (ap (λ k. slice_get c.self.inside.firsts k) (sym c.from.ensures) ∙ c.get-2.ensures)
