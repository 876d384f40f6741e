use Rattle.trace_law.proofs.Histories.{settled_traces}
use Rattle.trace_law.proofs.traces.settled_traces.Goals as goal

pub returns : goal.returns
returns c = settled_traces
