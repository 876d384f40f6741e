use Rattle.std.proofs.Common.{ap, ◌∙◌}
use Rattle.module_nets.specs.Declarations.{named}
use Rattle.module_nets.specs.Names.{text_of, with_names}
use Rattle.module_nets.proofs.Uses.{first_uses-all}
use Rattle.module_nets.proofs.table.class_table.Goals as goal

pub returns : goal.returns
returns c =
    c.in_ok-add_class.ensures
    ∙ ap (λ names. with_names names (named (text_of c.args.source.now c.args.tokens.now) c.args.class c.args.mentions.now)) c.new-names.ensures
    ∙ first_uses-all (named (text_of c.args.source.now c.args.tokens.now) c.args.class c.args.mentions.now)
