-- The outputs so far are those of the first gates.
use Rattle.std.proofs.Common.{◌≡◌, take}
use Rattle.chip_pass.specs.Orders.{ranked_outputs}
use Rattle.chip_pass.proofs.ranked.outputs_of.Given as goal

abbrev pub invariant-gates : goal.invariant-gates
invariant-gates l = l.outputs ≡ ranked_outputs l.chip (take l.k l.order.order)
