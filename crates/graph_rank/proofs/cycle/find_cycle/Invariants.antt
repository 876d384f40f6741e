use Rattle.std.specs.List.{count_by}
use Rattle.std.specs.Option.{is_none}
use Rattle.graph_rank.specs.Walk.{IsWalking}
use Rattle.graph_rank.proofs.cycle.find_cycle.Given as goal

abbrev pub invariant-walk : goal.invariant-walk
invariant-walk l = IsWalking l.graph l.walk.items l.places.items l.node

abbrev pub decreases-walk : goal.decreases-walk
decreases-walk l = count_by is_none l.places.items
