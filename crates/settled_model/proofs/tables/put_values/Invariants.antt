-- The values that are left, put to the table, make the whole table.
use Rattle.std.proofs.Common.{◌≡◌, ℕ, false, drop, length, get_or}
use Rattle.std.specs.Prelude.{IsTrue, unwrap_or}
use Rattle.std.specs.List.{list_all}
use Rattle.design_core.specs.Event.{given}
use Rattle.design_core.specs.Faults.{is_there}
use Rattle.settled_model.proofs.tables.put_values.Given as goal

abbrev pub invariant-values : goal.invariant-values
invariant-values l = record {
  rest : (n : ℕ) → unwrap_or (given (drop l.bit-index l.values) n) (get_or l.nets n false) ≡ unwrap_or (given l.values n) (get_or l.initial.nets n false);
  there : IsTrue (list_all (λ b. is_there (length l.nets) b.net) (drop l.bit-index l.values));
  size : length l.nets ≡ length l.initial.nets;
}
