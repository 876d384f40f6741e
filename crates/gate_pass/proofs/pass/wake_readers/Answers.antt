use Rattle.std.proofs.Common.{◌<◌, length, get_or, arith}
use Rattle.std.proofs.lemmas.List.Elements.{Contains-get_or}
use Rattle.std.proofs.lemmas.Option.{slice_get-get_or}
use Rattle.gate_pass.proofs.Woken.{one_woken, all_woken}
use Rattle.gate_pass.proofs.pass.wake_readers.Goals as goal

pub wake-requires : goal.wake-requires
wake-requires c =
    let low : c.gates.gate-index < length c.args.gates.now = omega (arith, c.gates-test.true, c.gates.auto.gate-index-end) in
    omega (arith, c.gates.invariant.size, c.requires (get_or c.args.gates.now c.gates.gate-index 0) (Contains-get_or c.args.gates.now c.gates.gate-index 0 low))

pub gates-preserved : goal.gates-preserved
gates-preserved c =
    let low : c.gates.gate-index < length c.args.gates.now = omega (arith, c.gates-test.true, c.gates.auto.gate-index-end) in
    let there : get_or c.args.gates.now c.gates.gate-index 0 < length c.gates.waiting =
    omega (arith, c.gates.invariant.size, c.requires (get_or c.args.gates.now c.gates.gate-index 0) (Contains-get_or c.args.gates.now c.gates.gate-index 0 low)) in
    rw c.wake.ensures (one_woken c.args.gates.now c.args.waiting.now c.gates.gate-index (get_or c.args.gates.now c.gates.gate-index 0) (slice_get-get_or c.args.gates.now c.gates.gate-index 0 low) c.gates.waiting there c.gates.invariant)

pub returns : goal.returns
returns c =
    all_woken c.args.gates.now c.args.waiting.now c.gates.gate-index c.gates.waiting
    (omega (arith, c.gates-test.false, c.gates.auto.gate-index-end)) c.gates.invariant
