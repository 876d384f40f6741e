-- The map has an entry for each chip that fits it.
use Rattle.std.proofs.Common.{◌∙◌, ap, sym}
use Rattle.std.specs.Prelude.{option_copied}
use Rattle.mark_rule.proofs.kept.kept_nets.Goals as goal

pub keep_chip-requires : goal.keep_chip-requires
keep_chip-requires c =
    c.stand.ensures.results.mapped.chips c.args.chip.place c.in-Some-Some.chip.now c.in-Some-Some.entry.now
    (sym c.chip_of.ensures ∙ ap option_copied c.in-Some-Some.is-0)
    (sym c.entry_of.ensures ∙ ap option_copied c.in-Some-Some.is-1)
