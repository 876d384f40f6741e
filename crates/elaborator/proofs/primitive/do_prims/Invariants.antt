use Rattle.std.proofs.Common.{◌≡◌, drop}
use Rattle.flattening.specs.Steps.{in_turn}
use Rattle.elaborator.specs.Primitives.{primitive_step}
use Rattle.elaborator.proofs.primitive.do_prims.Given as goal

abbrev pub invariant-prims : goal.invariant-prims
invariant-prims l =
    in_turn (primitive_step l.setting l.instance l.at l.word) (drop l.prim-index l.prims) l.making
    ≡ in_turn (primitive_step l.setting l.instance l.at l.word) l.prims l.initial.making
