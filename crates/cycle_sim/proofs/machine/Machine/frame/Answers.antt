use Rattle.std.proofs.Common.{length, refl, ap}
use Rattle.cycle_sim.proofs.Fitting.{slots_there}
use Rattle.cycle_sim.proofs.machine.Machine.frame.Goals as goal

pub do_frame-requires-clause-slots : goal.do_frame-requires-clause-slots
do_frame-requires-clause-slots c =
    slots_there c.self.inside.results.now c.self.inside.results.now c.self.inside.wires.now c.self.inside.wires.now
    (length c.as_slice-2.result.now) (length c.self.inside.outside.items) c.args.group.place c.timetable_of-frame.result.slots.now
    c.self.invariant.settled.under.equipped.runs refl refl
    (ap length c.as_slice-2.ensures.value) c.timetable_of-frame.ensures.slots
