use Rattle.trace_law.proofs.Alike.{loaded_trace_is_one}
use Rattle.trace_law.proofs.traces.loaded_trace_is_one.Goals as goal

pub returns : goal.returns
returns c = loaded_trace_is_one
