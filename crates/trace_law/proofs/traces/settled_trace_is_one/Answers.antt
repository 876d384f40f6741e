use Rattle.trace_law.proofs.Histories.{settled_trace_is_one}
use Rattle.trace_law.proofs.traces.settled_trace_is_one.Goals as goal

pub returns : goal.returns
returns c = settled_trace_is_one
