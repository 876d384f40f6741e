use Rattle.std.proofs.Common.{length}
use Rattle.gain_place.specs.Tables.{homed_loads}
use Rattle.gain_place.proofs.Standing.{stand_fresh, stand_more}
use Rattle.gain_place.proofs.loads.element_nets.Goals as goal

pub put_homed-requires-clause-fresh : goal.put_homed-requires-clause-fresh
put_homed-requires-clause-fresh c =
    stand_fresh (homed_loads c.args.design.now) (length c.args.design.now.elements) c.nets.net c.nets.nets.items c.nets.invariant

pub nets-preserved : goal.nets-preserved
nets-preserved c =
    stand_more (homed_loads c.args.design.now) (length c.args.design.now.elements) c.nets.net c.nets.nets.items c.nets.invariant
    c.put_homed.new.nets.items c.in_ok-put_homed.ensures
