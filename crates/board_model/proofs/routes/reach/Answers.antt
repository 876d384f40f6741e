use Rattle.std.proofs.Common.{◌∙◌, ap, sym, arith}
use Rattle.board_model.proofs.Distances.{skips, takes}
use Rattle.board_model.proofs.routes.reach.Goals as goal
use Rattle.board_model.proofs.routes.reach.Goals.{then-goes_on, else-goes_on}

pub wires-preserved : goal.wires-preserved
wires-preserved c = elim c.if-goes_on.branch [
  | then-goes_on w ↦
      takes _ _ _ _ _ _ c.wires.invariant _ _ (rw (ap (λ w. w.place) c.of.ensures) at c.ends.ensures.ends) (sym c.goes_on.ensures ∙ w.if-goes_on.true)
      (let e = c.ends.ensures.to_chip in let r = c.requires.count in let i = c.wires.invariant.count in omega arith)
      _ _ w.set.ensures (w.from.ensures ∙ w.place.ensures) _ w.distances-is _ w.more-is
  | else-goes_on w ↦
      skips _ _ _ _ _ _ c.wires.invariant _ _ (rw (ap (λ w. w.place) c.of.ensures) at c.ends.ensures.ends) (sym c.goes_on.ensures ∙ w.if-goes_on.false) _ w.distances-is _ w.more-is
]
