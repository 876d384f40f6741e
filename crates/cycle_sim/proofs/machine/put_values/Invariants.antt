-- What is left to put gives, on the table as it is, what all values give on the table from before.
use Rattle.std.proofs.Common.{◌≡◌, ℕ, false, drop, length, get_or}
use Rattle.std.specs.Prelude.{unwrap_or}
use Rattle.design_core.specs.Event.{given}
use Rattle.cycle_sim.proofs.machine.put_values.Given as goal

abbrev pub invariant-values : goal.invariant-values
invariant-values l = record {
  size : length l.table ≡ length l.initial.table;
  rest : (n : ℕ) → unwrap_or (given (drop l.bit-index l.values) n) (get_or l.table n false) ≡ unwrap_or (given l.values n) (get_or l.initial.table n false);
}
