-- The first frames have their tables.
use Rattle.slot_endings.specs.Endings.{FirstEndings}
use Rattle.slot_endings.proofs.endings.all_endings.Given as goal

abbrev pub invariant-frames : goal.invariant-frames
invariant-frames l = FirstEndings l.results l.wires l.frame-index l.endings.items
