-- The first actions are added.
use Rattle.std.proofs.Common.{take}
use Rattle.slot_endings.specs.Endings.{HaveMore}
use Rattle.slot_endings.proofs.endings.add_actions.Given as goal

abbrev pub invariant-actions : goal.invariant-actions
invariant-actions l = HaveMore l.wires l.t (take l.action-index l.actions) l.initial.endings l.endings
