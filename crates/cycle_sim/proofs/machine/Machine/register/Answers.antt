use Rattle.std.proofs.Common.{◌<◌, List, [], Bool, length, get_or, sym, subst}
use Rattle.cycle_sim.proofs.Chips.{q_in}
use Rattle.cycle_sim.proofs.machine.Machine.register.Goals as goal

pub held_at-requires-clause-net : goal.held_at-requires-clause-net
held_at-requires-clause-net c =
    subst (λ (held : List (List Bool)). c.register_of.result.q.place < length (get_or held c.args.chip.place [])) (sym c.as_slice.ensures.value)
    (q_in c.self.inside.results.now c.args.chip.place c.args.register.place c.register_of.result c.register_of.ensures
    _ _ c.self.invariant.settled.under.equipped.runs c.self.inside.held.items c.self.invariant.settled.under.equipped.held)
