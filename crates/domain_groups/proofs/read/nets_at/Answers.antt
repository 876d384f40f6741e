use Rattle.std.proofs.Common.{◌<◌, length, arith}
use Rattle.domain_groups.proofs.Collected.{nets_next}
use Rattle.domain_groups.proofs.read.nets_at.Goals as goal

pub places-preserved : goal.places-preserved
places-preserved c =
    let within : c.places.place-index < length c.args.places.now = omega arith in
    nets_next c.args.ports.now c.args.places.now c.places.nets _ _ _ c.places.place-index _ within (c.requires c.places.place-index 0 within) c.as_slice.ensures c.in_ok-add_nets.ensures
    c.places.invariant
