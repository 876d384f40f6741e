use Rattle.emu_app.specs.declared.command.Command.TheVariants.{Replay}
use Rattle.emu_app.specs.Fetching.{texts_of}
use Rattle.emu_app.proofs.FirstUnread.{before_board, before_opening}
use Rattle.emu_app.proofs.replay.read_replayed.Goals as goal

pub read_plan-requires-clause-before : goal.read_plan-requires-clause-before
read_plan-requires-clause-before c =
    before_board Replay c.args.top.now (texts_of Replay c.args.texts.now) c.args.design.now c.args.groups.now c.requires.before

pub read_recording-requires-clause-before : goal.read_recording-requires-clause-before
read_recording-requires-clause-before c =
    before_opening Replay c.args.top.now (texts_of Replay c.args.texts.now) c.args.design.now c.args.groups.now c.in_ok-plan.plan c.requires.before c.in_ok-plan.ensures
