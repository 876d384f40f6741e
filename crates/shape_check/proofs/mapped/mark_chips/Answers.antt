-- One chip after the other is marked.
use Rattle.std.proofs.Common.{◌<◌, length, arith, ap}
use Rattle.id_arena.specs.declared.keys.ChipId.{ChipId}
use Rattle.shape_check.proofs.Marking.{marks_chip, marks_chips}
use Rattle.shape_check.proofs.mapped.mark_chips.Goals as goal

pub each-preserved : goal.each-preserved
each-preserved c =
    let low : c.each.k < length c.args.case.now.results.net = omega (arith, c.each-test.true, c.modules-k-end.ensures) in
    marks_chip c.args.case.now.results c.each.k c.of.result.place _ c.each.table c.mark_chip.new.table low c.each.invariant c.mark_chip.ensures (ap (λ (x : ChipId). x.place) c.of.ensures)

pub returns : goal.returns
returns c = marks_chips c.args.case.now.results c.each.k _ _ (omega (arith, c.each-test.false, c.modules-k-end.ensures)) c.each.invariant
