use Rattle.gate_pass.specs.Readers.{AreFirstReaders}
use Rattle.gate_pass.proofs.readers.readers_of.Given as goal

abbrev pub invariant-nets : goal.invariant-nets
invariant-nets l = AreFirstReaders l.net l.fn.inputs l.readers
