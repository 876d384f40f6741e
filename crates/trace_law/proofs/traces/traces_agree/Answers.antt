use Rattle.trace_law.proofs.Spots.{traces_agree}
use Rattle.trace_law.proofs.traces.traces_agree.Goals as goal

pub returns : goal.returns
returns c = traces_agree
