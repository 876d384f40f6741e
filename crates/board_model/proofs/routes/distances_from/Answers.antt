use Rattle.std.proofs.Common.{◌∙◌, arith, rules}
use Rattle.board_model.proofs.Distances.{starts, next, last}
use Rattle.board_model.proofs.routes.distances_from.Goals as goal

pub rounds-init : goal.rounds-init
rounds-init c =
    starts c.args.board.now c.args.root.place _ _ _ _ c.requires
    (let n = c.chips.ensures.few in let e = c.chips.ensures.count in omega arith)
    c.set.ensures (c.from.ensures ∙ c.place.ensures) (search rules) c.chips.ensures.count

pub rounds-preserved : goal.rounds-preserved
rounds-preserved c = next _ _ _ _ _ _ c.rounds.invariant c.reach.ensures c.rounds-test.true

pub returns : goal.returns
returns c = last _ _ _ _ _ _ c.rounds.invariant c.reach.ensures c.rounds-test.false
