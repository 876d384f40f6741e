use Rattle.std.proofs.Common.{arith}
use Rattle.seed_place.proofs.Steps.{start, told_on, placed_on}
use Rattle.seed_place.proofs.placing.seed.Goals as goal

pub elements-init : goal.elements-init
elements-init c = rw (c.in_ok-left.ensures.all, c.new-placement.ensures) (start c.args.design.now c.args.board.now.rooms)

pub chip_for-requires : goal.chip_for-requires
chip_for-requires c =
    let same = c.elements.invariant.as_many in
    let first = c.in_ok-left.ensures.all in
    let few = c.in_ok-left.ensures.few in
    let is = c.as_slice.ensures.value in
    grind arith

pub returns-in_err-chip-clause-answers : goal.returns-in_err-chip-clause-answers
returns-in_err-chip-clause-answers c =
    told_on _ _ _ _ _ c.elements.invariant c.weight-weight.result (rw c.of-elem.ensures at c.weight-weight.ensures) _ c.as_slice.ensures.value
    c.of-elem.result _ c.of-elem.ensures c.in_err-chip.ensures c.from_residual-in_err-chip.result c.from_residual-in_err-chip.ensures.1

pub elements-preserved : goal.elements-preserved
elements-preserved c =
    placed_on _ _ _ _ _ c.elements.invariant c.weight-weight.result (rw c.of-elem.ensures at c.weight-weight.ensures) _ c.as_slice.ensures.value
    c.in_ok-chip.chip c.in_ok-chip.ensures _ _ _ c.in_ok-push.ensures.ok c.place.ensures c.index_mut.ensures.value
