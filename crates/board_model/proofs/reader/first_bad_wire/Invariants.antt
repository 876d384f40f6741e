use Rattle.board_model.specs.Sound.{FirstWiresJoin}
use Rattle.board_model.specs.FormAnswers.{plan_of}
use Rattle.board_model.proofs.reader.first_bad_wire.Given as goal

-- each wire before this one joins two chips
abbrev pub invariant-wires : goal.invariant-wires
invariant-wires l = FirstWiresJoin (plan_of l.form) l.number
