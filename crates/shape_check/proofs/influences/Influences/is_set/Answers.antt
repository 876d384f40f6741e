use Rattle.std.proofs.Common.{◌<◌, length, arith, subst, sym}
use Rattle.design_core.specs.Dependency.{IsNode}
use Rattle.clock_rank.specs.Numbers.{all_nodes, number_of}
use Rattle.clock_rank.proofs.Numbering.{number_at}
use Rattle.shape_check.specs.Influences.{Spread}
use Rattle.shape_check.proofs.influences.Influences.is_set.Goals as goal

pub test-requires-clause-at : goal.test-requires-clause-at
test-requires-clause-at c =
    let low : number_of c.self.inside.ranked.now.design c.args.node < length (all_nodes c.self.inside.ranked.now.design) =
    (number_at c.self.inside.ranked.now.design c.args.node (subst (λ (s : Spread). IsNode s.design c.args.node) (sym c.self.view_is) c.requires.node)).0 in
    omega (arith, low, c.number.ensures, c.self.invariant.1)
