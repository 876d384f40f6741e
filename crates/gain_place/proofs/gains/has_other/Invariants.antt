-- What is among all elements is among those left.
use Rattle.std.proofs.Common.{◌≡◌, drop}
use Rattle.gain_place.specs.Spans.{other_on}
use Rattle.gain_place.proofs.gains.has_other.Given as goal

abbrev pub invariant-elems : goal.invariant-elems
invariant-elems l = other_on l.chips l.elem.place l.chip.place (drop l.other-index l.elems) ≡ other_on l.chips l.elem.place l.chip.place l.elems
