use Rattle.std.proofs.Common.{◌<◌, length, arith}
use Rattle.domain_groups.proofs.TableBits.{low_at, sets_next}
use Rattle.domain_groups.proofs.groups.set_nets.Goals as goal

pub set-requires-clause-at : goal.set-requires-clause-at
set-requires-clause-at c =
    let low = low_at c.args.table.now.width c.args.nets.now c.nets.net-index _ c.place.result (omega arith) c.place.ensures c.requires.below in
    let wide = c.nets.invariant.width in
    omega arith

pub nets-preserved : goal.nets-preserved
nets-preserved c =
    sets_next c.args.table.now c.nets.table c.set.new.self c.args.row c.args.nets.now c.nets.net-index _ c.place.result (omega arith) c.place.ensures
    c.nets.invariant c.requires.row c.requires.below c.set.ensures.bit c.set.ensures.rectangular
