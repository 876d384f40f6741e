-- The chips so far have their tables, and the steps with the gates of the chips that are left are few.
use Rattle.std.proofs.Common.{◌≤◌, ◌+◌, drop}
use Rattle.output_marks.specs.Shown.{AreFirst, gate_count}
use Rattle.output_marks.proofs.tables.tables_of.Given as goal

abbrev pub invariant-chips : goal.invariant-chips
invariant-chips g l = record {
  shown : AreFirst l.design l.results l.c l.tables;
  counted : l.steps + gate_count (drop l.c l.results.net) ≤ l.initial.steps + gate_count l.results.net;
}
