use Rattle.std.proofs.Common.{ℕ, List, subst, ◌∙◌, arith}
use Rattle.std.specs.Prelude.{Contains}
use Rattle.graph_rank.specs.Rows.{row}
use Rattle.gate_pass.specs.Readers.{HasMore}
use Rattle.gate_pass.proofs.Chains.{next_chains}
use Rattle.gate_pass.proofs.readers.chains_of.Goals as goal

pub add_gate-requires : goal.add_gate-requires
add_gate-requires c n has =
    let reads : Contains (row c.args.inputs.now c.gates.gate) n = subst (λ (xs : List ℕ). Contains xs n) c.row.ensures has in
    omega (arith, c.requires c.gates.gate n reads, c.gates.invariant.size)

pub gates-preserved : goal.gates-preserved
gates-preserved c =
    record {
      size = c.in_ok-add_gate.ensures.nets ∙ c.gates.invariant.size;
      chained = next_chains c.args.inputs.now c.gates.gate c.gates.chains.last.items c.add_gate.new.self.last.items c.gates.chains.pins.items c.add_gate.new.self.pins.items c.gates.invariant.chained
          (subst (λ (xs : List ℕ). HasMore c.gates.invariant.chained.nets c.gates.chains.pins.items c.gates.gate xs c.add_gate.new.self.last.items c.add_gate.new.self.pins.items) c.row.ensures
          (c.in_ok-add_gate.ensures.pins c.gates.invariant.chained.nets c.gates.invariant.chained.linked));
    }
