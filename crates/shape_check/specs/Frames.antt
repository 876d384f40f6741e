-- Inside the rule A4: whether the frame of this number fits the group of this number.
use Rattle.std.specs.Prelude.{ℕ, Bool, not, slice_get}
use Rattle.design_core.specs.Influence.{all_groups}
use Rattle.emu_machine.specs.Acceptance.{Case, frame_differs}

-- frame `k` is that of group `k`, or neither is there
abbrev pub fits : Case → ℕ → Bool
fits c k = not (frame_differs c (slice_get c.results.schedule.frames k) (slice_get (all_groups c.design c.groups) k))
