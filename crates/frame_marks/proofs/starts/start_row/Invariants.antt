-- The first memories have started.
use Rattle.std.proofs.Common.{◌≡◌, ◌<◌, ℕ, length}
use Rattle.std.specs.Prelude.{Some, slice_get}
use Rattle.frame_marks.specs.declared.tables.MemoryMarks.{MemoryMarks}
use Rattle.frame_marks.specs.Starts.{start_memory}
use Rattle.frame_marks.proofs.starts.start_row.Given as goal

abbrev pub invariant-memories : goal.invariant-memories
invariant-memories g l = record {
  size : length l.row ≡ length l.initial.row;
  started : (m : ℕ) (memory : MemoryMarks) → m < l.m → slice_get l.row m ≡ Some memory
      → memory ≡ start_memory l.plan.design.now l.plan.results.now (g.I.Inside.inside l.inside) l.chip.place m;
}
