use Rattle.trace_law.proofs.Histories.{opened_are_same}
use Rattle.trace_law.proofs.traces.opened_are_same.Goals as goal

pub returns : goal.returns
returns c = opened_are_same
