use Rattle.std.proofs.Common.{◌≡◌, drop}
use Rattle.flattening.specs.Items.{net_deed}
use Rattle.flattening.specs.Pieces.{performed}
use Rattle.flattening.specs.Steps.{in_turn}
use Rattle.elaborator.proofs.assign.do_nets.Given as goal

abbrev pub invariant-nets : goal.invariant-nets
invariant-nets l =
    in_turn (λ net. performed l.at (net_deed l.setting l.instance net)) (drop l.net-index l.nets) l.making
    ≡ in_turn (λ net. performed l.at (net_deed l.setting l.instance net)) l.nets l.initial.making
