-- The states that are left, set in the table, make the whole table.
use Rattle.std.proofs.Common.{◌≡◌, ℕ, false, drop, length, get_or}
use Rattle.std.specs.Prelude.{◌||◌, slice_get}
use Rattle.std.specs.List.{list_any}
use Rattle.settled_model.specs.Passing.{is_state_at}
use Rattle.settled_model.proofs.tables.set_states.Given as goal

abbrev pub invariant-ones : goal.invariant-ones
invariant-ones l = record {
  rest : (n : ℕ) → (get_or l.nets n false || list_any (λ id. is_state_at n (slice_get l.design.elements id.place)) (drop l.id-index l.ones))
      ≡ (get_or l.initial.nets n false || list_any (λ id. is_state_at n (slice_get l.design.elements id.place)) l.ones);
  size : length l.nets ≡ length l.initial.nets;
}
