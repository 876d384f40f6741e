use Rattle.std.proofs.Common.{ap, ◌∙◌, ◌++◌, ◌∷◌, []}
use Rattle.elaborator.specs.Sockets.{noted_first}
use Rattle.elaborator.proofs.Naming.{adds}
use Rattle.elaborator.proofs.sockets.Sockets.with.Goals as goal

pub invariant_of-result : goal.invariant_of-result
invariant_of-result c =
    (adds c.self.inside.names c.self.inside.firsts c.self.inside.rows c.self.invariant c.args.name.now c.args.width
    c.intern.new.self c.note_first.new.firsts c.push.new.self c.in-Ok.place c.in-Ok.ensures.names c.in-Ok.ensures.place
    (c.in_ok-note_first.ensures ∙ ap (λ n. noted_first c.self.inside.firsts c.in-Ok.place n) c.len.ensures) c.in_ok-push.ensures.ok).0

pub returns : goal.returns
returns c =
    (adds c.self.inside.names c.self.inside.firsts c.self.inside.rows c.self.invariant c.args.name.now c.args.width
    c.intern.new.self c.note_first.new.firsts c.push.new.self c.in-Ok.place c.in-Ok.ensures.names c.in-Ok.ensures.place
    (c.in_ok-note_first.ensures ∙ ap (λ n. noted_first c.self.inside.firsts c.in-Ok.place n) c.len.ensures) c.in_ok-push.ensures.ok).1
    ∙ ap (λ l. l ++ record { name = c.args.name.now; width = c.args.width } ∷ []) c.self.view_is
