use Rattle.std.proofs.Common.{List, ℕ, sym, subst}
use Rattle.gate_pass.specs.Gates.{AreRanked}
use Rattle.chip_pass.specs.Orders.{ranked_outputs}
use Rattle.chip_pass.proofs.Passes.{are_ranked}
use Rattle.chip_pass.proofs.pass.ChipPass.new.Goals as goal

pub new-requires : goal.new-requires
new-requires g c =
    subst (λ (outputs : List ℕ). AreRanked c.args.chip.now.nets c.in_ok-inputs.inputs outputs) (sym c.in_ok-outputs.ensures)
    (subst (λ (inputs : List (List ℕ)). AreRanked c.args.chip.now.nets inputs (ranked_outputs c.args.chip.now c.in_ok-order.order.order)) (sym c.in_ok-inputs.ensures)
    (are_ranked c.args.chip.now c.requires.driven c.in_ok-order.order.order c.in_ok-order.ensures))
