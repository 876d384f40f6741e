use Rattle.std.proofs.Common.{subst}
use Rattle.emu_machine.specs.Acceptance.{Case}
use Rattle.shape_check.specs.Verdict.{IsShapeVerdict}
use Rattle.emu_app.specs.Reading.{case_of}
use Rattle.emu_app.specs.Runs.{CanReplay, IsMachineTrace, IsRun, IsUnfit, NoAnswer}
use Rattle.emu_app.proofs.Comes.{comes_as}
use Rattle.emu_app.proofs.replay.replay_case.Goals as goal

pub returns-in-Ok-Accepted : goal.returns-in-Ok-Accepted
returns-in-Ok-Accepted g c =
    let judged : Case = case_of c.args.ranked.now.design c.args.groups.now c.args.replayed.plan in
    let fit : CanReplay judged = subst (IsShapeVerdict judged) c.in-Ok-Accepted.field-0-is c.in-Ok-Accepted.ensures in
    comes_as NoAnswer (IsUnfit judged) (IsMachineTrace judged c.args.replayed.recording) (IsRun judged c.args.replayed.recording)
    (g.O.Sink.written c.args.out.now) (g.O.Sink.written c.replay_recording.new.out) (g.O.Sink.faults c.args.out.now) (g.O.Sink.faults c.replay_recording.new.out)
    c.replay_recording.result
    (λ found none. absurd none)
    (λ trace is. (fit, is))
    c.replay_recording.ensures
