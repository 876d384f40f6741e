use Rattle.std.proofs.Common.{subst}
use Rattle.design_core.specs.declared.parts.Parts.{Parts}
use Rattle.emu_app.specs.declared.command.Command.TheVariants.{Settle}
use Rattle.emu_app.specs.Answers.{SettleMeans, TraceMeans}
use Rattle.emu_app.specs.Fetching.{texts_of}
use Rattle.emu_app.specs.Runs.{IsHistoryTrace, NoAnswer, RecordingSays}
use Rattle.emu_app.proofs.Comes.{comes_as}
use Rattle.emu_app.proofs.FirstUnread.{before_settling}
use Rattle.emu_app.proofs.Settling.{no_answer, settles}
use Rattle.emu_app.proofs.settle.settle_ranked.Goals as goal

pub returns-in-Ok : goal.returns-in-Ok
returns-in-Ok g c =
    comes_as NoAnswer (SettleMeans c.args.top.now (texts_of Settle c.args.texts.now)) (IsHistoryTrace c.args.ranked.now.design c.in-Ok.recording) (TraceMeans Settle c.args.top.now (texts_of Settle c.args.texts.now))
    (g.O.Sink.written c.args.out.now) (g.O.Sink.written c.settle_recording.new.out) (g.O.Sink.faults c.args.out.now) (g.O.Sink.faults c.settle_recording.new.out) c.settle_recording.result
    (no_answer (SettleMeans c.args.top.now (texts_of Settle c.args.texts.now)))
    (settles c.texts_tell_runs_apart.ensures c.args.top.now (texts_of Settle c.args.texts.now) c.args.ranked.now.design c.args.groups.now c.in-Ok.recording c.requires.says
    (subst (λ (q : Parts). RecordingSays (texts_of Settle c.args.texts.now) q c.in-Ok.recording) c.design.ensures c.in-Ok.ensures.means))
    c.settle_recording.ensures

pub read_recording-requires-clause-before : goal.read_recording-requires-clause-before
read_recording-requires-clause-before g c = before_settling c.args.top.now (texts_of Settle c.args.texts.now) c.args.ranked.now.design c.args.groups.now c.requires.says
