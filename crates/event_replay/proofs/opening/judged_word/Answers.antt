use Rattle.std.proofs.Common.{arith, ap, ◌<◌, ◌^◌}
use Rattle.std.proofs.Math.Pow.{pow_mono}
use Rattle.event_replay.proofs.opening.judged_word.Goals as goal

pub number_of-requires-clause-fits : goal.number_of-requires-clause-fits
number_of-requires-clause-fits c =
    let most = pow_mono {i = c.in-Some.width} {j = 128} c.in-Some.ensures.2 in
    omega (arith, most, c.in_ok-check_value.ensures.1.1)
