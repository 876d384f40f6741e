use Rattle.std.proofs.Common.{◌≡◌, ◌<◌, ℕ, None, length, slice_index_or}
use Rattle.board_model.specs.Trees.{TellsOf}
use Rattle.board_model.proofs.routes.tree.Given as goal

-- the chips so far are told of
abbrev pub invariant-chips : goal.invariant-chips
invariant-chips l = record {
  count : length l.branches ≡ l.place;
  each : (chip : ℕ) → chip < l.place → TellsOf l.board l.root.place chip (slice_index_or l.branches chip None);
}
