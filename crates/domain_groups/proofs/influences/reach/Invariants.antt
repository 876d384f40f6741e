use Rattle.domain_groups.proofs.Spreading.{Spread}
use Rattle.domain_groups.proofs.influences.reach.Given as goal

abbrev pub invariant-nodes : goal.invariant-nodes
invariant-nodes l =
    Spread l.ranked.design l.ranked.order l.seeds l.initial.table l.table l.row l.place
