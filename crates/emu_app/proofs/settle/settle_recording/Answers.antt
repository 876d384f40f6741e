use Rattle.std.proofs.Common.{Ok, Err, subst}
use Rattle.design_core.specs.declared.parts.Parts.{Parts}
use Rattle.settled_model.specs.Held.{valuation}
use Rattle.event_replay.specs.Runs.{SettleMeans}
use Rattle.emu_app.proofs.Settling.{HasOpened, has_opened, settled_broken, settled_whole}
use Rattle.emu_app.proofs.settle.settle_recording.Goals as goal

pub returns-in-Ok-settle_lines : goal.returns-in-Ok-settle_lines
returns-in-Ok-settle_lines g c =
    let begun : HasOpened c.args.ranked.now.design c.args.recording (valuation c.in-Ok.settled) =
    has_opened c.one_history.ensures c.openings_fit.ensures c.args.ranked.now.design c.design-design.result.now c.args.recording (valuation c.in-Ok.settled) c.design-design.ensures c.stands.ensures.design c.stands-2.ensures.ranked c.requires.fits c.in-Ok.ensures.opened in
    settled_whole c.args.ranked.now.design c.args.recording (valuation c.in-Ok.settled) begun c.settled_trace_is_one.ensures (valuation c.settle_lines.new.settled) (g.O.Sink.written c.args.out.now) (g.O.Sink.written c.settle_lines.new.out) (g.O.Sink.faults c.args.out.now) (g.O.Sink.faults c.settle_lines.new.out) c.in-Ok-settle_lines.field-0
    (subst (λ (q : Parts). SettleMeans q c.args.recording.events (valuation c.in-Ok.settled) (valuation c.settle_lines.new.settled) (g.O.Sink.written c.args.out.now) (g.O.Sink.written c.settle_lines.new.out) (g.O.Sink.faults c.args.out.now) (g.O.Sink.faults c.settle_lines.new.out) (Ok c.in-Ok-settle_lines.field-0)) c.design-design.ensures c.in-Ok-settle_lines.ensures.means)

pub returns : goal.returns
returns g c =
    let begun : HasOpened c.args.ranked.now.design c.args.recording (valuation c.in-Ok.settled) =
    has_opened c.one_history.ensures c.openings_fit.ensures c.args.ranked.now.design c.design-design.result.now c.args.recording (valuation c.in-Ok.settled) c.design-design.ensures c.stands.ensures.design c.stands-2.ensures.ranked c.requires.fits c.in-Ok.ensures.opened in
    settled_broken c.args.ranked.now.design c.args.recording (valuation c.in-Ok.settled) begun c.settled_traces.ensures c.broken_traces.ensures (valuation c.settle_lines.new.settled) (g.O.Sink.written c.args.out.now) (g.O.Sink.written c.settle_lines.new.out) (g.O.Sink.faults c.args.out.now) (g.O.Sink.faults c.settle_lines.new.out) c.in-Err.fault
    (subst (λ (q : Parts). SettleMeans {X = Unit {0}} q c.args.recording.events (valuation c.in-Ok.settled) (valuation c.settle_lines.new.settled) (g.O.Sink.written c.args.out.now) (g.O.Sink.written c.settle_lines.new.out) (g.O.Sink.faults c.args.out.now) (g.O.Sink.faults c.settle_lines.new.out) (Err c.in-Err.fault)) c.design-design.ensures c.in-Err.ensures.means)
