-- The rows so far are those of the first gates.
use Rattle.std.proofs.Common.{◌≡◌, take}
use Rattle.chip_pass.specs.Orders.{ranked_inputs}
use Rattle.chip_pass.proofs.ranked.inputs_of.Given as goal

abbrev pub invariant-gates : goal.invariant-gates
invariant-gates l = l.inputs ≡ ranked_inputs l.chip (take l.k l.order.order)
