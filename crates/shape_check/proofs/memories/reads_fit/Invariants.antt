use Rattle.std.proofs.Common.{◌≡◌, drop}
use Rattle.shape_check.specs.Ports.{reads_fit}
use Rattle.shape_check.proofs.memories.reads_fit.Given as goal

abbrev pub invariant-each : goal.invariant-each
invariant-each l = reads_fit l.case.results l.chip.place l.entry l.k (drop l.k l.design) (drop l.k l.ports) ≡ reads_fit l.case.results l.chip.place l.entry 0 l.design l.ports
