use Rattle.std.proofs.Common.{◌≡◌, ◌++◌, drop, map}
use Rattle.std.specs.Prelude.{filter}
use Rattle.flattening.specs.Flattening.{port_of}
use Rattle.flattening.specs.Instances.{has_dir}
use Rattle.flattening.specs.Places.{name_in}
use Rattle.elaborator.specs.Top.{is_side}
use Rattle.elaborator.proofs.top.ports_with.Given as goal

abbrev pub invariant-ports : goal.invariant-ports
invariant-ports l =
    l.ports ++ map (port_of l.here) (filter (has_dir (is_side l.side) l.here) (map (λ p. name_in l.setting p.name) (drop l.port-index l.port-items)))
    ≡ map (port_of l.here) (filter (has_dir (is_side l.side) l.here) (map (λ p. name_in l.setting p.name) l.port-items))
