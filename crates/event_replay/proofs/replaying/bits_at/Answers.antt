use Rattle.std.proofs.Common.{get_or}
use Rattle.std.proofs.lemmas.List.Elements.{Contains-get_or}
use Rattle.emu_machine.specs.declared.map.Spot.{Spot}
use Rattle.event_replay.proofs.InRange.{chip_there}
use Rattle.event_replay.proofs.replaying.bits_at.Goals as goal

pub net-requires-clause-chip : goal.net-requires-clause-chip
net-requires-clause-chip c =
    let none : Spot = record { chip = record { place = 0 }; net = record { place = 0 } } in
    let spot : Spot = get_or c.args.spots.now c.spots.spot-index none in
    chip_there c.args.machine.now.results.net spot.chip.place spot.net.place
    (c.requires spot (Contains-get_or c.args.spots.now c.spots.spot-index none c.spots-test.true))
