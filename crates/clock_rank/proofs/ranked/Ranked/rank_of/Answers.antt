use Rattle.std.proofs.Common.{subst, sym, ap, ◌∙◌}
use Rattle.design_core.specs.Dependency.{IsNode, HasRank}
use Rattle.clock_rank.specs.Orders.{RankedDesign}
use Rattle.clock_rank.specs.Numbers.{number_of}
use Rattle.clock_rank.proofs.Relating.{rank_design}
use Rattle.clock_rank.proofs.Ends.{rank_room}
use Rattle.clock_rank.proofs.ranked.Ranked.rank_of.Goals as goal

pub rank_of-requires : goal.rank_of-requires
rank_of-requires c =
    let node = subst (λ (v : RankedDesign). IsNode v.design c.args.node) (sym c.self.view_is) c.requires in
    let is = c.number-number.ensures ∙ ap (λ (v : RankedDesign). number_of v.design c.args.node) (sym c.self.view_is) in
    rank_room c.self.inside.design.now c.stands.ensures.design c.self.inside.order c.self.invariant.0 c.args.node node _ is

pub returns : goal.returns
returns c =
    let node = subst (λ (v : RankedDesign). IsNode v.design c.args.node) (sym c.self.view_is) c.requires in
    let is = c.number-number.ensures ∙ ap (λ (v : RankedDesign). number_of v.design c.args.node) (sym c.self.view_is) in
    subst (λ (v : RankedDesign). HasRank v.design c.args.node c.rank_of.result) c.self.view_is
    (rank_design c.self.inside.design.now c.stands.ensures.design c.self.inside.order c.self.invariant.0 c.args.node node _ _ is c.rank_of.ensures)
