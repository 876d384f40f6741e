use Rattle.std.proofs.Common.{subst}
use Rattle.clock_rank.specs.Orders.{RankedDesign, IsInOrder}
use Rattle.clock_rank.proofs.Relating.{order_design}
use Rattle.clock_rank.proofs.ranked.Ranked.stands.Goals as goal

pub returns : goal.returns
returns c =
    subst (λ (v : RankedDesign). IsInOrder v.design v.order) c.self.view_is
    (order_design c.self.inside.design.now c.stands.ensures.design c.ranks_are_unique.ensures c.self.inside.order c.self.invariant.0)
