use Rattle.std.proofs.Common.{◌≡◌, ◌++◌, drop}
use Rattle.std.specs.Prelude.{flat_map}
use Rattle.domain_groups.specs.Ports.{nets_at}
use Rattle.domain_groups.proofs.read.nets_at.Given as goal

abbrev pub invariant-places : goal.invariant-places
invariant-places l =
    l.nets ++ flat_map (nets_at l.ports) (drop l.place-index l.places) ≡ flat_map (nets_at l.ports) l.places
