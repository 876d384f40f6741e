use Rattle.std.proofs.Common.{◌≡◌, ◌∙◌, ap, sym}
use Rattle.module_nets.specs.Declarations.{named}
use Rattle.module_nets.specs.declared.mention.Class.TheVariants.{Use, Own}
use Rattle.module_nets.specs.Mentions.{mentions}
use Rattle.module_nets.specs.Names.{is_implicit, text_of, with_names}
use Rattle.module_nets.proofs.Numbering.{names_all, nets_front, nets_within}
use Rattle.module_nets.proofs.table.full_table.Goals as goal

pub returns-clause-table : goal.returns-clause-table
returns-clause-table c =
    let text = text_of c.args.source.now c.args.tokens.now in
    let implicit = is_implicit c.args.tokens.now in
    let all = mentions c.args.module.now in
    let used = c.in_ok-add_class.ensures ∙ ap (λ ms. with_names c.in_ok-names.names (named text Use ms)) c.as_slice.ensures in
    let owned = c.in_ok-add_class-2.ensures ∙ ap (λ ms. with_names c.add_class.new.names (named text Own ms)) c.as_slice-2.ensures in
    record {
      mentions = c.in_ok-mentions.ensures;
      names = names_all text implicit all c.in_ok-names.names c.add_class.new.names c.add_class-2.new.names c.in_ok-mentions.mentions c.in_ok-names.ensures.names c.in_ok-mentions.ensures used owned;
      front = nets_front text implicit all c.in_ok-names.names c.add_class.new.names c.add_class-2.new.names c.in_ok-mentions.mentions c.in_ok-names.ensures.names c.in_ok-mentions.ensures used owned c.len-count.result c.len-count.ensures;
      within = nets_within text implicit all c.in_ok-names.names c.add_class.new.names c.add_class-2.new.names c.in_ok-mentions.mentions c.in_ok-names.ensures.names c.in_ok-mentions.ensures used owned c.len-count.result c.len-count.ensures;
    }
