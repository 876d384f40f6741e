use Rattle.std.proofs.Common.{rules, ◌+◌, List, sym, subst}
use Rattle.emu_machine.specs.declared.schedule.Action.{Action}
use Rattle.slot_endings.specs.Endings.{FirstEndings}
use Rattle.slot_endings.proofs.Ending.{one_first}
use Rattle.slot_endings.proofs.endings.all_endings.Goals as goal

pub frames-preserved : goal.frames-preserved
frames-preserved c =
    subst (λ (endings : List (List (List Action))). FirstEndings c.args.results.now c.args.wires.now (c.frames.frame-index + 1) endings) (sym c.in_ok-push.ensures.items)
    (one_first c.args.results.now c.args.wires.now c.frames.frame-index c.frame-item.result (search rules) (search rules)
    c.frames.endings.items c.frames.invariant c.as_slice.result.now c.as_slice.ensures c.in_ok-endings_of.field-0 c.in_ok-endings_of.ensures)
