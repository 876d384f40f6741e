use Rattle.std.proofs.Common.{take, map}
use Rattle.serde_json.specs.View.{view}
use Rattle.result_files.specs.Lists.{SayEach}
use Rattle.result_files.proofs.told.read_told.Given as goal

-- what is read is what the entries so far say
abbrev pub invariant-entries : goal.invariant-entries
invariant-entries g l = SayEach g.T.Told.Says (map view (take l.place l.trees)) l.values
