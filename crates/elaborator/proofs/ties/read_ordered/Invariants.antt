use Rattle.std.proofs.Common.{◌≡◌, map, take}
use Rattle.std.specs.Prelude.{option_map}
use Rattle.verilog_tree.specs.declared.source.Links.TheVariants.{Ordered}
use Rattle.flattening.specs.Faults.{bits_here}
use Rattle.flattening.specs.Links.{value_tests}
use Rattle.flattening.specs.Steps.{first_fault}
use Rattle.elaborator.specs.Ties.{ordered_from}
use Rattle.elaborator.proofs.ties.read_ordered.Given as goal

abbrev pub invariant-places : goal.invariant-places
invariant-places l =
    (l.ties ≡ map (option_map (bits_here l.setting l.here)) (take l.k l.places))
    × (ordered_from l.setting l.here l.sockets l.places l.k ≡ first_fault (value_tests l.setting l.here l.sockets (Ordered l.places)))
