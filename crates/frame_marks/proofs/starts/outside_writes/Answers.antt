use Rattle.std.proofs.Common.{◌∙◌, sym, arith}
use Rattle.frame_marks.proofs.Starting.{one_outside, one_inside, all_outside}
use Rattle.frame_marks.proofs.starts.outside_writes.Goals as goal
use Rattle.frame_marks.proofs.starts.outside_writes.Goals.{then-not-has_write, else-not-has_write}

pub ports-preserved : goal.ports-preserved
ports-preserved g c =
    elim c.if-not-has_write.branch [
      | then-not-has_write w ↦
          w.outside-is ∙ one_outside c.args.of c.args.memory.now (g.I.Inside.inside c.args.inside.now) c.ports.port (omega arith) c.ports.outside c.ports.invariant (sym c.has_write.ensures ∙ w.if-not-has_write.true)
      | else-not-has_write w ↦
          w.outside-is ∙ one_inside c.args.of c.args.memory.now (g.I.Inside.inside c.args.inside.now) c.ports.port (omega arith) c.ports.outside c.ports.invariant (sym c.has_write.ensures ∙ w.if-not-has_write.false)
    ]

pub returns : goal.returns
returns g c =
    all_outside c.args.of c.args.memory.now (g.I.Inside.inside c.args.inside.now) c.ports.port c.ports.outside (omega arith) c.ports.invariant
