-- The first ports are counted.
use Rattle.std.proofs.Common.{◌≡◌, take, not}
use Rattle.std.specs.Prelude.{count_by}
use Rattle.design_core.specs.Dependency.{write_nodes}
use Rattle.frame_marks.proofs.starts.outside_writes.Given as goal

abbrev pub invariant-ports : goal.invariant-ports
invariant-ports g l = l.outside ≡ count_by (λ a. not (g.I.Inside.inside l.inside a)) (take l.port (write_nodes l.of l.memory))
