-- The counts so far are 1.
use Rattle.std.proofs.Common.{◌≡◌, ◌<◌, ℕ, get_or}
use Rattle.emu_machine.proofs.drivers.least_other.Given as goal

abbrev pub invariant-nets : goal.invariant-nets
invariant-nets l = (m : ℕ) → m < l.net → get_or l.drivers m 0 ≡ 1
