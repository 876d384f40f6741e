use Rattle.std.proofs.Common.{◌≡◌, ◌<◌, Err, length, arith, rules}
use Rattle.domain_groups.specs.Openings.{led_to}
use Rattle.event_replay.proofs.Ones.{one_gives, one_sound, one_stops}
use Rattle.event_replay.proofs.opening.judged_ones.Goals as goal

pub returns-in_err-one : goal.returns-in_err-one
returns-in_err-one c =
    let within : c.paths.path-index < length c.args.paths.now = omega arith in
    let same : c.from_residual.result ≡ Err c.in_err-one.field-0.0 = search rules in
    one_stops (led_to c.args.states.now) c.args.paths.now c.paths.path-index _ within c.paths.invariant.sound _ c.in_err-one.field-0.0 c.from_residual.result same c.in_err-one.ensures

pub paths-preserved : goal.paths-preserved
paths-preserved c =
    let within : c.paths.path-index < length c.args.paths.now = omega arith in
    let good = c.in_ok-one.ensures in
    record {
      sound = one_sound (led_to c.args.states.now) c.args.paths.now c.paths.path-index _ within c.paths.invariant.sound good.0;
      gives = one_gives (led_to c.args.states.now) c.args.paths.now c.paths.path-index _ within c.paths.invariant.sound c.paths.ones c.push.new.self c.in_ok-one.one c.paths.invariant.gives good.1 c.in_ok-push.ensures.ok;
    }
