use Rattle.std.proofs.Common.{◌≡◌, ℕ, List, length, take}
use Rattle.gate_pass.specs.Readers.{AreLinked, HasMore}
use Rattle.gate_pass.proofs.readers.Chains.add_gate.Given as goal

abbrev pub invariant-nets : goal.invariant-nets
invariant-nets l = record {
  size : length l.self.last.items ≡ length l.initial.self.last.items;
  more : (all : List ℕ) → AreLinked all l.initial.self.last.items l.initial.self.pins.items
      → HasMore all l.initial.self.pins.items l.gate (take l.net-index l.nets) l.self.last.items l.self.pins.items;
}
