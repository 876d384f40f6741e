use Rattle.std.proofs.Common.{◌≡◌, drop, map}
use Rattle.cell_parts.specs.Named.{pin_seen}
use Rattle.cell_parts.specs.Pins.{once, pin_names}
use Rattle.cell_parts.proofs.Gathering.{added}
use Rattle.cell_parts.proofs.pins.pins_of.Given as goal

-- the names are those of the pins, and with the pins that are left they are all pins, each once
abbrev pub invariant-named : goal.invariant-named
invariant-named l = (l.names ≡ pin_names l.pins) × (added l.pins (map pin_seen (drop l.pin-index l.pin-items)) ≡ once (map pin_seen l.pin-items))
