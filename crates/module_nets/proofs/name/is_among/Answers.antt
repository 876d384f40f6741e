use Rattle.std.proofs.Common.{ap, is_some, ◌∙◌}
use Rattle.module_nets.proofs.Uses.{is_some-place}
use Rattle.module_nets.proofs.name.is_among.Goals as goal

pub returns : goal.returns
returns c = c.is_some.ensures ∙ ap (λ o. is_some o) c.find.ensures.place ∙ is_some-place c.args.names.now c.args.text.now
