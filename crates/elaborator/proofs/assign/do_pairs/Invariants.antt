use Rattle.std.proofs.Common.{◌≡◌, drop}
use Rattle.flattening.specs.Items.{pair_deed}
use Rattle.flattening.specs.Pieces.{performed}
use Rattle.flattening.specs.Steps.{in_turn}
use Rattle.elaborator.proofs.assign.do_pairs.Given as goal

abbrev pub invariant-pairs : goal.invariant-pairs
invariant-pairs l =
    in_turn (λ pair. performed l.at (pair_deed l.setting l.instance pair)) (drop l.pair-index l.pairs) l.making
    ≡ in_turn (λ pair. performed l.at (pair_deed l.setting l.instance pair)) l.pairs l.initial.making
