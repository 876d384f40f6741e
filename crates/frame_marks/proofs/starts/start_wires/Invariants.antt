-- The first wires carry nothing that is known.
use Rattle.std.proofs.Common.{◌≡◌, ◌<◌, ℕ, length, get_or}
use Rattle.emu_machine.specs.Marks.{no_mark}
use Rattle.frame_marks.proofs.starts.start_wires.Given as goal

abbrev pub invariant-wires : goal.invariant-wires
invariant-wires l = record {
  size : length l.carried ≡ length l.initial.carried;
  none : (w : ℕ) → w < l.w → get_or l.carried w no_mark ≡ no_mark;
}
