use Rattle.std.proofs.Common.{◌↔◌, drop}
use Rattle.event_replay.proofs.ReadDigits.{Fits}
use Rattle.event_replay.proofs.values.is_value.Given as goal

abbrev pub invariant-digits : goal.invariant-digits
invariant-digits l = Fits l.width (drop l.place l.digits) ↔ Fits l.width l.digits
