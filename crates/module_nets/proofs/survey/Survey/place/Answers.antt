use Rattle.std.proofs.Common.{ap, sym, ◌∙◌, ◌≡◌, true}
use Rattle.module_nets.specs.Names.{is_among, text_of}
use Rattle.module_nets.proofs.Uses.{absent}
use Rattle.module_nets.proofs.survey.Survey.place.Goals as goal

pub returns-in-None : goal.returns-in-None
returns-in-None c =
    let among : is_among c.self.inside.names.now (text_of c.args.self.now.source c.args.self.now.tokens c.args.token) ≡ true = ap (λ s. is_among s.names (text_of c.args.self.now.source c.args.self.now.tokens c.args.token)) c.self.view_is ∙ c.requires in
    absurd (absent c.self.inside.names.now _ _ _ c.in-None.is c.find.ensures.place c.text.ensures among)
