use Rattle.std.proofs.Common.{◌≡◌, ◌≤◌}
use Rattle.settled_model.specs.Held.{valuation}
use Rattle.event_replay.proofs.SettledRuns.{Settling}
use Rattle.event_replay.proofs.settling.settle_lines.Given as goal

abbrev pub invariant-events : goal.invariant-events
invariant-events g l = record {
  design : l.settled.parts ≡ l.initial.settled.parts;
  so_far : Settling l.design (valuation l.initial.settled) l.events l.place (valuation l.settled) (g.O.Sink.written l.initial.out) (g.O.Sink.written l.out);
  later : g.O.Sink.faults l.initial.out ≤ g.O.Sink.faults l.out;
}
