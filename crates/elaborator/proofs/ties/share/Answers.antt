use Rattle.std.proofs.Common.{arith, length, subst, sym, ap, slice_set, ◌+◌, ◌<◌, ◌∙◌}
use Rattle.elaborator.specs.Ties.{Shares}
use Rattle.elaborator.proofs.Sharing.{share_copy, share_own}
use Rattle.elaborator.proofs.ties.share.Goals as goal
use Rattle.elaborator.proofs.ties.share.Goals.{then-first-place+in_ok-copy, else-first-place}

pub places-preserved : goal.places-preserved
places-preserved c =
    let sockets = c.args.sockets.now in
    let low : c.places.place < length sockets = omega arith in
    elim c.if-first-place.branch [
      | then-first-place+in_ok-copy w ↦
          subst (λ l. Shares sockets (c.places.place + 1) c.args.ties.now l) (sym w.ties-is)
          (share_copy sockets c.places.place low c.args.ties.now c.places.ties c.requires c.places.invariant c.first-first.result c.first-first.ensures
          w.set.new.self w.get.result.now w.if-first-place.true w.get.ensures (w.set.ensures ∙ ap (λ x. slice_set c.places.ties c.places.place x) w.in_ok-copy.ensures))
      | else-first-place w ↦
          subst (λ l. Shares sockets (c.places.place + 1) c.args.ties.now l) (sym w.ties-is)
          (share_own sockets c.places.place low c.args.ties.now c.places.ties c.requires c.places.invariant c.first-first.result c.first-first.ensures (λ e. omega arith))
    ]
