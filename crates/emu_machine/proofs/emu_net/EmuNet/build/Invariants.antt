-- The nets of the chips so far have one driver each.
use Rattle.std.proofs.Common.{◌≡◌, ◌<◌, ℕ}
use Rattle.emu_machine.specs.Netlist.{chip_at, net_drivers}
use Rattle.emu_machine.proofs.emu_net.EmuNet.build.Given as goal

abbrev pub invariant-chips : goal.invariant-chips
invariant-chips l = (c n : ℕ) → c < l.place → n < (chip_at l.fn.chips c).nets → net_drivers (chip_at l.fn.chips c) n ≡ 1
