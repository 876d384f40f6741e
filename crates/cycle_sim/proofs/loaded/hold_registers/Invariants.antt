-- The first of them have the values of what they stand for.
use Rattle.std.proofs.Common.{take}
use Rattle.std.specs.Prelude.{zip}
use Rattle.std.specs.List.{list_any}
use Rattle.cycle_sim.specs.Loading.{Gains, kept_as_q}
use Rattle.cycle_sim.proofs.loaded.hold_registers.Given as goal

abbrev pub invariant-registers : goal.invariant-registers
invariant-registers l = Gains (λ n. list_any (kept_as_q n) (take l.k (zip l.chip.registers l.entry.kept))) l.entry l.values l.initial.held l.held
