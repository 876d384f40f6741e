use Rattle.std.proofs.Common.{◌≡◌, drop}
use Rattle.shape_check.specs.Ports.{writes_fit}
use Rattle.shape_check.proofs.memories.writes_fit.Given as goal

abbrev pub invariant-each : goal.invariant-each
invariant-each l = writes_fit l.case.results l.chip.place l.of l.k (drop l.k l.design) (drop l.k l.ports) ≡ writes_fit l.case.results l.chip.place l.of 0 l.design l.ports
