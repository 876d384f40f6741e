use Rattle.board_model.specs.Rounds.{IsLowest}
use Rattle.board_model.proofs.routes.lowest_nearer.Given as goal

-- the lowest of the wires so far
abbrev pub invariant-wires : goal.invariant-wires
invariant-wires l = IsLowest l.board l.distances l.chip.place l.distance l.number l.lowest
