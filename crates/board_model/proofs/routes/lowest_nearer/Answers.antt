use Rattle.std.proofs.Common.{◌≡◌, ◌∙◌, ap, sym, subst, arith}
use Rattle.board_model.specs.Rounds.{found, is_before, IsLowest}
use Rattle.board_model.proofs.Parents.{takes, skips, read_at, to_chip, no_chip}
use Rattle.board_model.proofs.routes.lowest_nearer.Goals as goal
use Rattle.board_model.proofs.routes.lowest_nearer.Goals.{then-eq+then-is_before+then-is_below, else-eq, else-eq-via-then-eq+then-is_before+else-is_below, else-eq-via-then-eq+else-is_before, else-eq-via-else-eq}

pub wires-preserved : goal.wires-preserved
wires-preserved c =
    let ends = rw (ap (λ w. w.place) c.of.ensures) at c.ends.ensures.ends in
    let near : found c.args.distances.now c.ends.result.0.place ≡ c.get-near.result.now =
    read_at _ _ _ _ c.get-near.ensures (c.from.ensures ∙ c.place.ensures) in
    elim c.if-eq.branch [
      | then-eq+then-is_before+then-is_below w ↦
          takes c.args.board.now _ c.args.chip _ _ _ c.wires.invariant _ _ ends (to_chip _ _ _ c.eq.ensures w.if-eq.true)
          (ap (λ o. is_before o c.args.distance) near ∙ sym w.is_before.ensures ∙ w.if-is_before.true)
          (sym w.is_below.ensures ∙ w.if-is_below.true) _ w.lowest-is
      | else-eq w ↦
          skips c.args.board.now _ c.args.chip _ _ _ c.wires.invariant _ _ ends
          (λ same before. elim w.else-eq.branch [
            | else-eq-via-then-eq+then-is_before+else-is_below v ↦ sym v.is_below.ensures ∙ v.if-is_below.false
            | else-eq-via-then-eq+else-is_before v ↦
                let e = ap (λ o. is_before o c.args.distance) near ∙ sym v.is_before.ensures ∙ v.if-is_before.false in cc
            | else-eq-via-else-eq v ↦ no_chip _ _ _ c.eq.ensures v.if-eq.false same
          ]) _ w.lowest-is
    ]

pub returns : goal.returns
returns c = subst (λ k. IsLowest c.args.board.now c.args.distances.now c.args.chip.place c.args.distance k c.wires.lowest) (let a = c.wires.auto.number-end in let b = c.wires-test.false in let e = c.wires-number-end.ensures.count in omega arith) c.wires.invariant
