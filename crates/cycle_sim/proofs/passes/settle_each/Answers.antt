use Rattle.std.proofs.Common.{◌<◌, ◌≤◌, get_or, length, refl, arith}
use Rattle.std.specs.Prelude.{slice_set}
use Rattle.std.proofs.lemmas.Option.{slice_get-get_or}
use Rattle.cycle_sim.proofs.Levels.{one_caught_up, all_caught_up}
use Rattle.cycle_sim.proofs.passes.settle_each.Goals as goal

pub chips-preserved : goal.chips-preserved
chips-preserved c =
    let low : c.chips.c < length c.chips.passes = omega (arith, c.chips-test.true, c.chips.auto.c-end, c.chips.invariant.size) in
    one_caught_up c.args.passes.now c.chips.passes (slice_set c.chips.passes c.chips.c c.settle.new.pass) c.chips.c (get_or c.chips.passes c.chips.c c.index-passes-c.result) c.settle.new.pass low
    (slice_get-get_or c.chips.passes c.chips.c c.index-passes-c.result low)
    c.settle.ensures refl c.chips.invariant

pub returns : goal.returns
returns c =
    let whole : length c.args.passes.now ≤ c.chips.c = omega (arith, c.chips-test.false, c.chips.auto.c-end) in
    all_caught_up c.args.passes.now c.chips.passes c.chips.c whole c.chips.invariant
