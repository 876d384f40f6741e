use Rattle.std.proofs.Common.{◌≡◌, take}
use Rattle.flattening.specs.Links.{link_tests}
use Rattle.flattening.specs.Steps.{first_fault}
use Rattle.elaborator.specs.Targets.{AreMarked, targets_from, link_names}
use Rattle.elaborator.proofs.targets.link_fault.Given as goal

abbrev pub invariant-links : goal.invariant-links
invariant-links l =
    AreMarked l.sockets (link_names l.setting (take l.link-index l.links)) l.seen
    × (targets_from l.setting l.sockets l.links l.link-index ≡ first_fault (link_tests l.setting l.sockets l.links))
