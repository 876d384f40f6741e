use Rattle.std.proofs.Common.{◌≡◌, take}
use Rattle.verilog_tree.specs.declared.source.Links.TheVariants.{Named}
use Rattle.flattening.specs.Links.{value_tests}
use Rattle.flattening.specs.Steps.{first_fault}
use Rattle.elaborator.specs.Ties.{AreTied, named_from}
use Rattle.elaborator.proofs.ties.read_named.Given as goal

abbrev pub invariant-links : goal.invariant-links
invariant-links l =
    AreTied l.setting l.here l.sockets (take l.link-index l.links) l.ties
    × (named_from l.setting l.here l.sockets l.links l.link-index ≡ first_fault (value_tests l.setting l.here l.sockets (Named l.links)))
