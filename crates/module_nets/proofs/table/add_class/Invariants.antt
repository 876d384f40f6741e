use Rattle.std.proofs.Common.{◌≡◌, drop}
use Rattle.module_nets.specs.Declarations.{named}
use Rattle.module_nets.specs.Names.{text_of, with_names}
use Rattle.module_nets.proofs.table.add_class.Given as goal

abbrev pub invariant-mentions : goal.invariant-mentions
invariant-mentions l =
    with_names l.names (named (text_of l.source l.tokens) l.class (drop l.mention-index l.mentions))
    ≡ with_names l.fn.names (named (text_of l.source l.tokens) l.class l.mentions)
