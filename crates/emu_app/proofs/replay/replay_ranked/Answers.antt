use Rattle.std.proofs.Common.{subst}
use Rattle.design_core.specs.declared.parts.Parts.{Parts}
use Rattle.emu_machine.specs.Acceptance.{Case}
use Rattle.case_texts.specs.What.{Texts}
use Rattle.emu_app.specs.declared.command.Command.TheVariants.{Replay}
use Rattle.emu_app.specs.Answers.{ReplayMeans, TraceMeans}
use Rattle.emu_app.specs.Fetching.{texts_of}
use Rattle.emu_app.specs.Reading.{ReplayedSays, StandForOneReplay, case_of}
use Rattle.emu_app.specs.Runs.{IsRun, IsUnfit}
use Rattle.emu_app.proofs.Comes.{comes_as}
use Rattle.emu_app.proofs.Replaying.{events_fit, one_replay, run_means, unfit_means}
use Rattle.emu_app.proofs.replay.replay_ranked.Goals as goal

pub replay_case-requires-clause-events : goal.replay_case-requires-clause-events
replay_case-requires-clause-events g c =
    let texts : Texts = texts_of Replay c.args.texts.now in
    let says : ReplayedSays texts c.args.ranked.now.design c.in-Ok.replayed =
    subst (λ (q : Parts). ReplayedSays texts q c.in-Ok.replayed) c.design.ensures c.in-Ok.ensures.means in
    events_fit c.each_text_has_one_answer.ensures c.recorded_events_fit.ensures c.args.top.now texts c.args.ranked.now.design c.args.groups.now c.in-Ok.replayed c.requires.says says

pub returns-in-Ok : goal.returns-in-Ok
returns-in-Ok g c =
    let texts : Texts = texts_of Replay c.args.texts.now in
    let p : Parts = c.args.ranked.now.design in
    let judged : Case = case_of p c.args.groups.now c.in-Ok.replayed.plan in
    let says : ReplayedSays texts p c.in-Ok.replayed =
    subst (λ (q : Parts). ReplayedSays texts q c.in-Ok.replayed) c.design.ensures c.in-Ok.ensures.means in
    let stand : StandForOneReplay c.args.top.now texts judged c.in-Ok.replayed.recording =
    one_replay c.texts_tell_cases_apart.ensures c.texts_tell_recordings_apart.ensures c.args.top.now texts p c.args.groups.now c.in-Ok.replayed c.requires.says says in
    comes_as (IsUnfit judged) (ReplayMeans c.args.top.now texts) (IsRun judged c.in-Ok.replayed.recording) (TraceMeans Replay c.args.top.now texts)
    (g.O.Sink.written c.args.out.now) (g.O.Sink.written c.replay_case.new.out) (g.O.Sink.faults c.args.out.now) (g.O.Sink.faults c.replay_case.new.out)
    c.replay_case.result
    (unfit_means c.args.top.now texts judged c.in-Ok.replayed.recording stand)
    (run_means c.args.top.now texts judged c.in-Ok.replayed.recording stand)
    c.replay_case.ensures
