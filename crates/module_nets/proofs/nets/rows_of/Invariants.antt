use Rattle.std.proofs.Common.{◌++◌, ◌≡◌, ◌≤◌, ◌*◌, drop}
use Rattle.module_nets.specs.Rows.{rows_from}
use Rattle.module_nets.proofs.nets.rows_of.Given as goal

abbrev pub invariant-seen : goal.invariant-seen
invariant-seen l =
    (l.rows ++ rows_from l.first (drop l.name-index l.seen) ≡ rows_from 0 l.seen)
    × (l.first ≤ l.name-index * 4294967296)
