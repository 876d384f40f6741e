-- The chips of the first elements are counted.
use Rattle.std.proofs.Common.{take, length}
use Rattle.gain_place.specs.Spans.{IsSpanned}
use Rattle.gain_place.proofs.cutting.spanned.Given as goal

abbrev pub invariant-elems : goal.invariant-elems
invariant-elems l = IsSpanned l.chips (take l.elem-index l.elems) l.stamp (length l.initial.seen.items) l.seen.items l.count
