-- The events so far are run, and their lines are written.
use Rattle.std.proofs.Common.{◌≡◌, ◌≤◌, length, take}
use Rattle.emu_io.specs.Sink.{AppendsWhereTold}
use Rattle.emu_machine.specs.State.{run_of}
use Rattle.cycle_sim.specs.Tables.{state}
use Rattle.settled_model.specs.Runs.{last_of}
use Rattle.domain_groups.specs.Traces.{machine_trace}
use Rattle.event_replay.proofs.replaying.replay_lines.Given as goal

abbrev pub invariant-events : goal.invariant-events
invariant-events g l = record {
  results : l.machine.results ≡ l.results;
  wires : l.machine.wires ≡ l.initial.machine.wires;
  inputs : length l.machine.tables.outside ≡ length l.initial.machine.tables.outside;
  later : g.O.Sink.faults l.initial.out ≤ g.O.Sink.faults l.out;
  ran : state l.machine ≡ last_of (state l.initial.machine) (run_of l.results l.initial.machine.wires (state l.initial.machine) (take l.place l.events));
  text : AppendsWhereTold (g.O.Sink.written l.initial.out) (machine_trace l.design l.results (run_of l.results l.initial.machine.wires (state l.initial.machine) (take l.place l.events))) (g.O.Sink.written l.out);
}
