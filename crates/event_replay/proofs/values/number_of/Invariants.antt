-- The number so far, with the digits to come after it, is the whole number.
use Rattle.std.proofs.Common.{◌≡◌, ◌+◌, ◌*◌, ◌^◌, drop, length}
use Rattle.event_replay.specs.Values.{hex_number}
use Rattle.event_replay.proofs.values.number_of.Given as goal

abbrev pub invariant-digits : goal.invariant-digits
invariant-digits l =
    l.number * 16 ^ length (drop l.byte-index l.digits) + hex_number (drop l.byte-index l.digits) ≡ hex_number l.digits
