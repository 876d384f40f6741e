use Rattle.board_model.specs.Rounds.{IsRound}
use Rattle.board_model.proofs.routes.reach.Given as goal

-- the wires so far have done their part of the round
abbrev pub invariant-wires : goal.invariant-wires
invariant-wires l = IsRound l.board l.number l.distance l.initial.distances l.distances l.more
