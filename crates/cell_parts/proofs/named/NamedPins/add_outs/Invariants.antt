use Rattle.std.proofs.Common.{◌≡◌, ◌++◌, drop, map}
use Rattle.cell_parts.specs.Pins.{bit_pin}
use Rattle.cell_parts.proofs.named.NamedPins.add_outs.Given as goal

abbrev pub invariant-outputs : goal.invariant-outputs
invariant-outputs l = l.self ++ map (λ out. bit_pin out.pin) (drop l.out-index l.outputs) ≡ l.initial.self ++ map (λ out. bit_pin out.pin) l.outputs
