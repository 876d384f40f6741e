use Rattle.std.proofs.Common.{arith, refl}
use Rattle.std.proofs.Math.Nat.{pow-le-pow_right}
use Rattle.event_replay.proofs.values.takes_at_most.Goals as goal

pub returns-in_default : goal.returns-in_default
returns-in_default c =
    let more = pow-le-pow_right {n = 2} (omega arith) {i = 4} {j = c.args.bits} (omega arith) in
    (λ _. omega arith, λ _. refl)
