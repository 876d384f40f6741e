use Rattle.std.proofs.Common.{◌∙◌}
use Rattle.module_nets.specs.Mentions.{mentions}
use Rattle.module_nets.proofs.OfKinds.{kept_counted}
use Rattle.module_nets.proofs.table.counted.Goals as goal

pub returns : goal.returns
returns c =
    c.in_ok-found.ensures
    ∙ kept_counted c.args.source.now c.args.tokens.now c.args.declared.now (mentions c.args.module.now) c.requires
