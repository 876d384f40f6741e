use Rattle.std.proofs.Common.{◌≡◌, ◌++◌, replicate}
use Rattle.elaborator.proofs.making.push_paths.Given as goal

abbrev pub invariant-paths : goal.invariant-paths
invariant-paths l = l.ends ≡ l.initial.ends ++ replicate l.counter l.scope
