use Rattle.emu_app.proofs.Agreeing.{traces_agree}
use Rattle.emu_app.proofs.laws.settle_and_replay_agree.Goals as goal

pub returns : goal.returns
returns c = traces_agree c.settled_trace_is_one.ensures
