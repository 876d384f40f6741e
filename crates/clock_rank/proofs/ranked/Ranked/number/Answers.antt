use Rattle.std.proofs.Common.{subst, sym, ap, ◌∙◌, arith}
use Rattle.design_core.specs.declared.node.NodeId.{NodeId}
use Rattle.design_core.specs.declared.node.NodeId.TheVariants.{Write}
use Rattle.design_core.specs.Dependency.{IsNode}
use Rattle.clock_rank.specs.Orders.{RankedDesign}
use Rattle.clock_rank.specs.Numbers.{number_of}
use Rattle.clock_rank.proofs.Ends.{number_is}
use Rattle.clock_rank.proofs.ranked.Ranked.number.Goals as goal

pub overflow_add-result : goal.overflow_add-result
overflow_add-result c =
    let node = subst (λ (a : NodeId). IsNode c.args.self.now.design a) c.in-Write.is c.requires in
    let node-2 = subst (λ (v : RankedDesign). IsNode v.design (Write c.in-Write.m c.in-Write.port)) (sym c.self.view_is) node in
    let h = (number_is c.self.inside.design.now _ c.self.invariant.2 c.in-Write.m c.in-Write.port node-2 c.place-in-Write.result _ c.place-in-Write.ensures c.index.ensures).0 in
    omega arith

pub returns-in-Write : goal.returns-in-Write
returns-in-Write c =
    let node = subst (λ (a : NodeId). IsNode c.args.self.now.design a) c.in-Write.is c.requires in
    let node-2 = subst (λ (v : RankedDesign). IsNode v.design (Write c.in-Write.m c.in-Write.port)) (sym c.self.view_is) node in
    let h = (number_is c.self.inside.design.now _ c.self.invariant.2 c.in-Write.m c.in-Write.port node-2 c.place-in-Write.result _ c.place-in-Write.ensures c.index.ensures).1 in
    h ∙ ap (λ (v : RankedDesign). number_of v.design (Write c.in-Write.m c.in-Write.port)) c.self.view_is
    ∙ ap (number_of c.args.self.now.design) (sym c.in-Write.is)
