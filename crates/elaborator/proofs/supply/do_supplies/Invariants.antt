use Rattle.std.proofs.Common.{◌≡◌, drop}
use Rattle.flattening.specs.Items.{supply_deed}
use Rattle.flattening.specs.Pieces.{performed}
use Rattle.flattening.specs.Steps.{in_turn}
use Rattle.elaborator.proofs.supply.do_supplies.Given as goal

abbrev pub invariant-names : goal.invariant-names
invariant-names l =
    in_turn (λ name. performed l.at (supply_deed l.setting l.instance l.one name)) (drop l.name-index l.names) l.making
    ≡ in_turn (λ name. performed l.at (supply_deed l.setting l.instance l.one name)) l.names l.initial.making
