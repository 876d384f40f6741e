-- The state is that at the start of the slot at hand.
use Rattle.std.proofs.Common.{◌≡◌}
use Rattle.emu_machine.specs.State.{state_at}
use Rattle.cycle_sim.specs.Tables.{IsUnderWay, state_of}
use Rattle.cycle_sim.proofs.slots.do_frame.Given as goal

abbrev pub invariant-slots : goal.invariant-slots
invariant-slots l = record {
  under : IsUnderWay l.plan.results.now l.plan.wires.now (record { held = l.held; words = l.words; outside = l.outside; carried = l.carried }) l.passes;
  at : state_of (record { held = l.held; words = l.words; outside = l.outside; carried = l.carried })
      ≡ state_at l.plan.results.now.net l.plan.wires.now l.frame.slots.now (state_of (record { held = l.initial.held; words = l.initial.words; outside = l.outside; carried = l.initial.carried })) l.t;
}
