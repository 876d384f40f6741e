use Rattle.std.proofs.Common.{◌≡◌, ◌<◌, ℕ, true, length, set, sym, ap, ◌∙◌, arith}
use Rattle.std.specs.Prelude.{Some}
use Rattle.std.proofs.lemmas.List.{length-set}
use Rattle.std.proofs.lemmas.Option.{slice_get-get_or}
use Rattle.cycle_sim.proofs.Levels.{one_gated}
use Rattle.cycle_sim.proofs.passes.mark_outputs.Goals as goal

pub gates-preserved : goal.gates-preserved
gates-preserved c =
    let low : c.gates.gate-index < length c.args.gates.now = omega (arith, c.gates-test.true, c.gates.auto.gate-index-end) in
    let there : c.gate-item.result.output.place < length c.args.gated.now =
    c.requires c.gates.gate-index c.gate-item.result (slice_get-get_or c.args.gates.now c.gates.gate-index c.gate-item.result low ∙ ap Some (sym c.gate-item.is)) in
    let within : c.gate-item.result.output.place < length c.gates.gated = omega (arith, there, c.gates.invariant.count) in
    let put : c.set.new.self ≡ set c.gates.gated c.gate-item.result.output.place true =
    c.set.ensures ∙ ap (λ (n : ℕ). set c.gates.gated n true) (c.from.ensures ∙ c.place.ensures) in
    record {
      count = ap length c.set.ensures ∙ length-set c.gates.gated c.from.result true ∙ c.gates.invariant.count;
      tells = λ n.
          one_gated c.args.gates.now c.gates.gate-index c.gate-item.result low c.gate-item.is
          c.gates.gated c.set.new.self within put n
          ∙ c.gates.invariant.tells n;
    }
