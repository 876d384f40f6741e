-- Nothing drives a net that is not there.
use Rattle.std.proofs.Common.{sym, ◌≤◌, subst, ℕ}
use Rattle.design_core.specs.declared.parts.Parts.{Parts}
use Rattle.design_core.specs.Design.{net_count}
use Rattle.shape_check.proofs.Driven.{far_driver}
use Rattle.shape_check.proofs.shape_case.ShapeCase.driver.Goals as goal

pub returns-else-net-nets : goal.returns-else-net-nets
returns-else-net-nets c =
    sym
    (far_driver c.args.self.now.design c.stands.ensures.design c.args.net.place
    (subst (λ (q : Parts). net_count q ≤ c.args.net.place) c.design-design.ensures (subst (λ (k : ℕ). k ≤ c.args.net.place) c.nets.ensures.count c.if-net-nets.false)))
