use Rattle.std.proofs.Common.{◌+◌, List, sym, subst, ◌∙◌}
use Rattle.chip_pass.specs.Chips.{ChipState}
use Rattle.emu_machine.specs.Marks.{Mark}
use Rattle.frame_marks.proofs.Building.{FirstChips, chip_driven, one_chip}
use Rattle.frame_marks.proofs.frame.all_chips.Goals as goal

pub new-requires-clause-driven : goal.new-requires-clause-driven
new-requires-clause-driven c =
    chip_driven c.args.results.now c.stand.ensures.netlist c.chips.c c.chip_of.result.now c.chip_of.ensures.at

pub chips-preserved : goal.chips-preserved
chips-preserved c =
    subst (λ (chips : List (ChipState Mark)). FirstChips c.args.results.now (c.chips.c + 1) chips) (sym c.in_ok-push.ensures.items)
    (one_chip c.args.results.now c.chips.c c.chips.chips.items c.chips.invariant c.in_ok-new.field-0
    (c.in_ok-new.ensures.chip ∙ c.chip_of.ensures.is) c.in_ok-new.ensures.stands)
