use Rattle.std.proofs.Common.{◌≡◌, replicate}
use Rattle.gate_pass.proofs.pass.values_of.Given as goal

abbrev pub invariant-nets : goal.invariant-nets
invariant-nets g l = l.values.items ≡ replicate l.counter l.value
