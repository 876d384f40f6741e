use Rattle.std.proofs.Common.{◌≡◌, length}
use Rattle.gate_pass.specs.Readers.{AreChains}
use Rattle.gate_pass.proofs.readers.chains_of.Given as goal

abbrev pub invariant-gates : goal.invariant-gates
invariant-gates l = record {
  size : length l.chains.last.items ≡ l.fn.nets;
  chained : AreChains l.inputs l.gate l.chains.last.items l.chains.pins.items;
}
