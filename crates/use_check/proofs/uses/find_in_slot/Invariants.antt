use Rattle.std.proofs.Common.{[], ◌∷◌}
use Rattle.emu_machine.specs.State.{frame_slots}
use Rattle.emu_machine.specs.Acceptance.{earlier_actions}
use Rattle.use_check.specs.Uses.{FailsUse, Tell}
use Rattle.use_check.proofs.Walk.{NoneBefore}
use Rattle.use_check.proofs.uses.find_in_slot.Given as goal

abbrev pub invariant-each : goal.invariant-each
invariant-each l =
    record {
      told : Tell l.judged.board.now.wires l.judged.results.now.net (earlier_actions (frame_slots l.judged.results.now l.frame) l.slot l.j) l.slot l.tables.free l.tables.stamps;
      none : NoneBefore (FailsUse l.judged.board.now.wires l.judged.results.now) (l.frame ∷ l.slot ∷ []) l.j;
    }
