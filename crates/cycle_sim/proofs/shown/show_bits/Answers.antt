use Rattle.std.proofs.Common.{◌<◌, ◌≤◌, length, get_or, arith}
use Rattle.std.proofs.lemmas.List.{get_or_default, drop_all}
use Rattle.cycle_sim.specs.Passes.{IsFree, rows_of}
use Rattle.cycle_sim.proofs.CatchingUp.{one_bit, all_bits}
use Rattle.cycle_sim.proofs.Levels.{chip_in_rows, net_in_rows}
use Rattle.cycle_sim.proofs.shown.show_bits.Goals as goal

pub bits-preserved : goal.bits-preserved
bits-preserved c =
    let low : c.bits.bit-index < length c.args.bits.now = omega (arith, c.bits-test.true, c.bits.auto.bit-index-end) in
    let free : IsFree c.args.results.now c.args.chip.place (get_or c.args.bits.now c.bits.bit-index (record { place = 0 })).place = c.requires.free c.bits.bit-index (record { place = 0 }) low in
    record {
      passes = c.show.ensures.passes;
      left =
          one_bit c.args.chip.place c.args.bits.now c.args.held.now (rows_of c.args.passes.now) c.bits.bit-index (get_or c.args.bits.now c.bits.bit-index (record { place = 0 })) low
          (get_or_default c.args.bits.now c.bits.bit-index (record { place = 0 }) (get_or c.args.bits.now c.bits.bit-index (record { place = 0 })) low)
          (rows_of c.bits.passes) (rows_of c.show.new.passes)
          (chip_in_rows c.args.results.now c.bits.passes c.bits.invariant.passes c.args.chip.place (get_or c.args.bits.now c.bits.bit-index (record { place = 0 })).place free.low)
          (net_in_rows c.args.results.now c.bits.passes c.bits.invariant.passes c.args.chip.place (get_or c.args.bits.now c.bits.bit-index (record { place = 0 })).place free.low)
          c.show.ensures.shown c.bits.invariant.left;
    }

pub returns-clause-shown : goal.returns-clause-shown
returns-clause-shown c =
    let past : length c.args.bits.now ≤ c.bits.bit-index = omega (arith, c.bits-test.false, c.bits.auto.bit-index-end) in
    all_bits c.args.chip.place c.args.bits.now c.args.held.now (rows_of c.args.passes.now) c.bits.bit-index (drop_all c.bits.bit-index c.args.bits.now past) (rows_of c.bits.passes) c.bits.invariant.left
