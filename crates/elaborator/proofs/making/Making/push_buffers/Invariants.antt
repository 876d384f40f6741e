use Rattle.std.proofs.Common.{◌≡◌, drop, length}
use Rattle.flattening.specs.Pieces.{buffers, elements_in, joined}
use Rattle.elaborator.proofs.making.Making.push_buffers.Given as goal

abbrev pub invariant-bits : goal.invariant-bits
invariant-bits l =
    joined l.self (elements_in l.scope (buffers (drop (length l.yielded) l.from) (drop (length l.yielded) l.to)))
    ≡ joined l.initial.self (elements_in l.scope (buffers l.from l.to))
