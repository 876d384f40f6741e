use Rattle.cycle_sim.proofs.passes.settle.Goals as goal

pub settle-requires-clause-known : goal.settle-requires-clause-known
settle-requires-clause-known c k gate at = (c.stands.ensures.driven.formed.gates k gate at).few
