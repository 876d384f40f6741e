use Rattle.std.proofs.Common.{◌<◌, arith}
use Rattle.cycle_sim.proofs.Ports.{address_small}
use Rattle.cycle_sim.proofs.words.address_of.Goals as goal

pub overflow_cast-result : goal.overflow_cast-result
overflow_cast-result c =
    let small : c.number_of.result < 65536 = address_small _ c.number_of.result c.requires.few c.number_of.ensures.low in
    omega (arith, small)
