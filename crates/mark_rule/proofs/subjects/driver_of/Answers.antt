-- Nothing drives a net that is not there.
use Rattle.std.proofs.Common.{sym, ◌≤◌, subst, ℕ}
use Rattle.mark_rule.proofs.Far.{far_driver}
use Rattle.mark_rule.proofs.subjects.driver_of.Goals as goal

pub returns-else-net-nets : goal.returns-else-net-nets
returns-else-net-nets c =
    sym
    (far_driver c.args.design.now c.stands.ensures.design c.args.net.place
    (subst (λ (k : ℕ). k ≤ c.args.net.place) c.nets.ensures.count c.if-net-nets.false))
