use Rattle.std.proofs.Common.{◌+◌, ℕ, List}
use Rattle.std.specs.Option.{option_map_or}
use Rattle.gate_pass.specs.Readers.{AreLinked, AreFound}
use Rattle.gate_pass.proofs.readers.Chains.fill.Given as goal

abbrev pub invariant-back : goal.invariant-back
invariant-back l =
    (all : List ℕ) → AreLinked all l.self.last.items l.self.pins.items → AreFound l.self.pins.items all l.net l.at l.gates.items

abbrev pub decreases-back : goal.decreases-back
decreases-back l = option_map_or (λ p. p + 1) l.at 0
