-- The worked examples compute.
use Rattle.std.proofs.Common.{refl}
use Rattle.cell_parts.specs.CellElements.{cell_elements}
use Rattle.cell_parts.specs.Pins.{pins_of}
use Rattle.flattening.specs.Examples.{ClockGateMakes, ExamplesHold, OwnFlopMakes, PrimitivesHaveOutputsFirst, RangesFromTheRight, SharedClockIsOnePin}

ranges : RangesFromTheRight
ranges = (refl, refl)

primitives : PrimitivesHaveOutputsFirst
primitives = (refl, refl)

clock_gate_makes : ClockGateMakes
unfolding cell_elements pins_of
clock_gate_makes = (refl, refl)

own_flop_makes : OwnFlopMakes
unfolding cell_elements pins_of
own_flop_makes = refl

shared_clock : SharedClockIsOnePin
unfolding pins_of
shared_clock = refl

pub examples_hold : ExamplesHold
examples_hold = (ranges, primitives, clock_gate_makes, own_flop_makes, shared_clock)
