-- The first of them have the values of what they stand for.
use Rattle.std.proofs.Common.{take}
use Rattle.std.specs.Prelude.{zip}
use Rattle.std.specs.List.{list_any}
use Rattle.cycle_sim.specs.Loading.{Gains, kept_by_port}
use Rattle.cycle_sim.proofs.loaded.hold_ports.Given as goal

abbrev pub invariant-ports : goal.invariant-ports
invariant-ports l = Gains (λ n. list_any (kept_by_port n) (take l.k (zip l.memory.reads l.of.kept))) l.entry l.values l.initial.held l.held
