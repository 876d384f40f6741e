use Rattle.std.proofs.Common.{◌≡◌, ◌++◌, map, drop}
use Rattle.emu_machine.specs.State.{net_value}
use Rattle.cycle_sim.specs.Tables.{state}
use Rattle.event_replay.proofs.replaying.bits_at.Given as goal

abbrev pub invariant-spots : goal.invariant-spots
invariant-spots l =
    l.bits.items ++ map (λ spot. net_value l.machine.results.net (state l.machine) spot.chip.place spot.net.place) (drop l.spot-index l.spots)
    ≡ map (λ spot. net_value l.machine.results.net (state l.machine) spot.chip.place spot.net.place) l.spots
