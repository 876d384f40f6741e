use Rattle.trace_law.proofs.Breaks.{broken_traces}
use Rattle.trace_law.proofs.traces.broken_traces.Goals as goal

pub returns : goal.returns
returns c = broken_traces
