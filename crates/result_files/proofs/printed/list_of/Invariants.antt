use Rattle.std.proofs.Common.{◌≡◌, take}
use Rattle.std.specs.Prelude.{map}
use Rattle.serde_json.specs.View.{view}
use Rattle.result_files.proofs.printed.list_of.Given as goal

-- what is there are the trees of the items so far
abbrev pub invariant-items : goal.invariant-items
invariant-items g l = map view l.values.items ≡ map g.T.Written.tree (take l.place l.items)
