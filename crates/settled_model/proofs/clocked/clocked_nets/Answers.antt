-- One more net is added or passed over.
use Rattle.std.proofs.Common.{◌≡◌, ◌<◌, true, false, sym, ap, ◌∙◌, arith}
use Rattle.id_arena.specs.declared.keys.NetId.{NetId}
use Rattle.design_core.specs.Design.{net_count, driver}
use Rattle.settled_model.specs.Clocked.{is_clocked}
use Rattle.settled_model.proofs.Clocking.{one_clocked, other_clocked}
use Rattle.settled_model.proofs.clocked.clocked_nets.Goals as goal
use Rattle.settled_model.proofs.clocked.clocked_nets.Goals.{then-is_clocked+in_ok-push, else-is_clocked}

pub nets-preserved : goal.nets-preserved
nets-preserved c =
    let told : c.is_clocked.result ≡ is_clocked c.args.design.now (driver c.args.design.now c.nets.place) =
    c.is_clocked.ensures ∙ ap (λ (n : NetId). is_clocked c.args.design.now (driver c.args.design.now n.place)) c.of-net.ensures in
    let small : c.nets.place < net_count c.args.design.now = omega (arith, c.nets-test.true, c.nets.auto.place-end, c.nets-place-end.ensures.count) in
    elim c.if-is_clocked.branch [
      | then-is_clocked+in_ok-push w ↦
          rw w.clocked-is
          (one_clocked c.args.design.now c.nets.place c.nets.clocked.items c.nets.invariant c.of-net.result w.push.new.self.items c.of-net.ensures small (sym told ∙ w.if-is_clocked.true) w.in_ok-push.ensures.items)
      | else-is_clocked w ↦
          rw w.clocked-is (other_clocked c.args.design.now c.nets.place c.nets.clocked.items c.nets.invariant (sym told ∙ w.if-is_clocked.false))
    ]
