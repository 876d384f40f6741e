use Rattle.std.proofs.Common.{◌≡◌, drop, length}
use Rattle.flattening.specs.Pieces.{elements_in, joined}
use Rattle.elaborator.specs.Walk.{ports_elements}
use Rattle.elaborator.proofs.feeding.push_ports.Given as goal

abbrev pub invariant-ports : goal.invariant-ports
invariant-ports l =
    joined l.making (elements_in l.child.scope (ports_elements l.side l.setting l.child (drop (length l.yielded) l.ports) (drop (length l.yielded) l.tied)))
    ≡ joined l.initial.making (elements_in l.child.scope (ports_elements l.side l.setting l.child l.ports l.tied))
