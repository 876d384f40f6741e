-- The actions of the first slots are added.
use Rattle.std.proofs.Common.{take, length}
use Rattle.emu_machine.specs.State.{timed_actions}
use Rattle.slot_endings.specs.Endings.{HaveEndings}
use Rattle.slot_endings.proofs.endings.endings_of.Given as goal

abbrev pub invariant-slots : goal.invariant-slots
invariant-slots l = HaveEndings l.wires (length l.slots) (timed_actions (take l.t l.slots)) l.endings.items
