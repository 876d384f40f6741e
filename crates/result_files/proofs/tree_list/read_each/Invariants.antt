use Rattle.std.proofs.Common.{take, map}
use Rattle.serde_json.specs.View.{view}
use Rattle.result_files.specs.Lists.{SayEach}
use Rattle.result_files.proofs.tree_list.read_each.Given as goal

-- what is read is what the entries so far say
abbrev pub invariant-entries : goal.invariant-entries
invariant-entries g l = SayEach g.T.FromTree.Says (map view (take l.entry-index l.entries)) l.values
