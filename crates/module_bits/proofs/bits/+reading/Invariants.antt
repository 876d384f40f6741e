use Rattle.std.proofs.Common.{◌≤◌, drop, length}
use Rattle.module_bits.specs.Readings.{AddsParts}
use Rattle.module_bits.proofs.bits.+reading.Given as goal

abbrev pub invariant-read_parts-parts : goal.invariant-read_parts-parts
invariant-read_parts-parts l = AddsParts l.context l.fn.reading l.reading (drop l.left l.parts) × (l.left ≤ length l.parts)

abbrev pub decreases-read_parts-parts : goal.decreases-read_parts-parts
decreases-read_parts-parts l = l.left
