use Rattle.std.proofs.Common.{◌<◌, length, take, get_or, ◌∙◌, arith}
use Rattle.std.proofs.lemmas.List.Elements.{Contains-get_or}
use Rattle.gate_pass.specs.Readers.{HasMore}
use Rattle.gate_pass.proofs.Chains.{next_pin_more}
use Rattle.gate_pass.proofs.readers.Chains.add_gate.Goals as goal

pub add-requires : goal.add-requires
add-requires c =
    let low : c.nets.net-index < length c.args.nets.now = omega (arith, c.nets-test.true, c.nets.auto.net-index-end) in
    omega (arith, c.nets.invariant.size, c.requires (get_or c.args.nets.now c.nets.net-index 0) (Contains-get_or c.args.nets.now c.nets.net-index 0 low))

pub nets-preserved : goal.nets-preserved
nets-preserved c =
    let low : c.nets.net-index < length c.args.nets.now = omega (arith, c.nets-test.true, c.nets.auto.net-index-end) in
    record {
      size = c.in_ok-add.ensures.nets ∙ c.nets.invariant.size;
      more = λ all linked.
          let so_far : HasMore all c.args.self.now.pins.items c.args.gate (take c.nets.net-index c.args.nets.now) c.nets.self.last.items c.nets.self.pins.items = c.nets.invariant.more all linked in
          next_pin_more all c.args.self.now.pins.items c.args.gate c.args.nets.now c.nets.net-index c.nets.self.last.items c.add.new.self.last.items c.nets.self.pins.items c.add.new.self.pins.items low so_far
          (c.in_ok-add.ensures.pins so_far.all_nets so_far.linked);
    }
