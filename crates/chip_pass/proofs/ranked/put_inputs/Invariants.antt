-- What is listed, with the inputs that are left, is the whole list.
use Rattle.std.proofs.Common.{◌≡◌, ◌++◌, drop, map}
use Rattle.chip_pass.specs.Orders.{input_places}
use Rattle.chip_pass.proofs.ranked.put_inputs.Given as goal

abbrev pub invariant-inputs : goal.invariant-inputs
invariant-inputs l = l.nets.items ++ map (λ i. i.place) (drop l.input-index l.gate.inputs) ≡ input_places l.gate
