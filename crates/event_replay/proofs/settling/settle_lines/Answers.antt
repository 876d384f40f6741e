use Rattle.std.proofs.Common.{rules, ◌≡◌, Err, subst, sym}
use Rattle.settled_model.specs.Held.{valuation}
use Rattle.event_replay.specs.Runs.{SettleMeans}
use Rattle.event_replay.proofs.SettledRuns.{event_broken, event_done}
use Rattle.event_replay.proofs.settling.settle_lines.Goals as goal

pub events-preserved : goal.events-preserved
events-preserved g c = record {
  design = search rules;
  so_far = event_done _ _ _ _ _ _ _ _ c.events.invariant.so_far _ c.get.ensures _ c.in_ok-settle_line.ensures.after c.in_ok-settle_line.ensures.means;
  later = search rules;
}

pub returns-in_err-settle_line-clause-means : goal.returns-in_err-settle_line-clause-means
returns-in_err-settle_line-clause-means g c =
    let same : c.from_residual.result ≡ Err c.in_err-settle_line.field-0.0 = search rules in
    subst (λ r. SettleMeans c.args.design.now c.args.events.now (valuation c.args.settled.now) (valuation c.settle_line.new.settled) (g.O.Sink.written c.args.out.now) (g.O.Sink.written c.settle_line.new.out) (g.O.Sink.faults c.args.out.now) (g.O.Sink.faults c.settle_line.new.out) r) (sym same)
    (event_broken _ _ _ _ _ _ _ _ c.events.invariant.so_far _ c.get.ensures _ c.in_err-settle_line.ensures.after _ _ _ c.in_err-settle_line.field-0.0 c.events.invariant.later c.in_err-settle_line.ensures.means)
