-- One net after the other is put.
use Rattle.std.proofs.Common.{ap}
use Rattle.output_marks.proofs.Kept.{kept_more, put_at}
use Rattle.output_marks.proofs.tables.put_kept.Goals as goal

pub nets-preserved : goal.nets-preserved
nets-preserved c =
    kept_more c.args.kept.now c.nets.n c.args.pass.now c.nets.pass c.put_if.new.pass c.nets.invariant
    (put_at c.args.kept.now c.nets.n _ _ _ c.nets.pass c.put_if.new.pass c.from.ensures (ap (λ net. net.place) c.of.ensures) c.get.ensures c.put_if.ensures)
