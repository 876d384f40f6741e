-- The map has a Boolean for each register of a chip.
use Rattle.std.proofs.Common.{◌∙◌, ap, sym, length}
use Rattle.std.specs.Prelude.{option_copied}
use Rattle.shape_check.proofs.mapped.mark_chip.Goals as goal

pub mark_registers-requires : goal.mark_registers-requires
mark_registers-requires c =
    ap length c.as_slice-2.ensures
    ∙ (c.stands.ensures.results.mapped.chips c.args.chip.place c.in-Some-Some.found.now c.in-Some-Some.entry.now
    (sym c.chip.ensures ∙ ap option_copied c.in-Some-Some.is-0) (sym c.entry.ensures ∙ ap option_copied c.in-Some-Some.is-1)).registers
    ∙ ap length (sym c.as_slice.ensures)
