use Rattle.std.proofs.Common.{◌∙◌, false}
use Rattle.module_nets.specs.Mentions.{Sieve, mentions}
use Rattle.module_nets.specs.Names.{text_of}
use Rattle.module_nets.proofs.OfKinds.{declared_kept}
use Rattle.module_nets.proofs.table.declared_names.Goals as goal

pub returns-clause-names : goal.returns-clause-names
returns-clause-names c =
    let s : Sieve = record { source = c.args.source.now; tokens = c.args.tokens.now; declared = c.new.result; uses = false } in
    declared_kept (text_of c.args.source.now c.args.tokens.now) s _ _ (mentions c.args.module.now) _ _
    (c.as_slice.ensures ∙ c.in_ok-statements.ensures)
    (c.as_slice-2.ensures ∙ c.in_ok-statements.ensures)
    c.in_ok-names.ensures c.in_ok-add_class.ensures
