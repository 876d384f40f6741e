use Rattle.trace_law.proofs.Spots.{outputs_are_mapped}
use Rattle.trace_law.proofs.traces.outputs_are_mapped.Goals as goal

pub returns : goal.returns
returns c = outputs_are_mapped
