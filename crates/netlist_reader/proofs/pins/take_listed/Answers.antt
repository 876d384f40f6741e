use Rattle.std.proofs.Common.{[], refl}
use Rattle.netlist_reader.specs.Inside.{IsNetBelow}
use Rattle.netlist_reader.proofs.Stucks.{stops}
use Rattle.netlist_reader.proofs.Terminals.{comma_holds, behind_comma}
use Rattle.netlist_reader.proofs.pins.take_listed.Goals as goal

pub returns-in_err-take : goal.returns-in_err-take
returns-in_err-take c =
    stops (IsNetBelow c.args.nets) (λ u. Unit {0}) _ _ [] _ _ _ _ _ c.from_residual.ensures refl (comma_holds c.args.nets _ c.requires) c.in_err-take.ensures

pub returns : goal.returns
returns c = behind_comma c.args.nets _ _ _ _ c.in_ok-take.ensures.1 c.take_net.ensures
