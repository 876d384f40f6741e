use Rattle.std.proofs.Common.{◌≤◌, ℕ, length, zip, sym, subst, arith}
use Rattle.emu_machine.specs.Building.{AreNetsOf}
use Rattle.cycle_sim.specs.Loading.{kept_by_port}
use Rattle.facts.proofs.Places.{zip_at}
use Rattle.cycle_sim.proofs.Loads.{next_gains, all_gain, zip_short}
use Rattle.cycle_sim.proofs.loaded.hold_ports.Goals as goal

pub hold_port-requires-clause-bits : goal.hold_port-requires-clause-bits
hold_port-requires-clause-bits c =
    subst (λ (nets : ℕ). AreNetsOf nets c.get.result.now.bits) (sym c.ports.invariant.size) (c.requires.memory.reads c.ports.k c.get.result.now c.get.ensures).bits

pub ports-preserved : goal.ports-preserved
ports-preserved c =
    next_gains c.args.entry.now c.args.values.now kept_by_port (zip c.args.memory.now.reads c.args.of.now.kept) c.ports.k (c.get.result.now, c.get-in-ports.result.now)
    (zip_at c.args.memory.now.reads c.args.of.now.kept c.ports.k c.get.result.now c.get-in-ports.result.now c.get.ensures c.get-in-ports.ensures)
    c.args.held.now c.ports.held c.hold_port.new.held c.ports.invariant c.hold_port.ensures

pub returns : goal.returns
returns c =
    let short : length (zip c.args.memory.now.reads c.args.of.now.kept) ≤ length c.args.memory.now.reads = zip_short c.args.memory.now.reads c.args.of.now.kept in
    let whole : length (zip c.args.memory.now.reads c.args.of.now.kept) ≤ c.ports.k = omega (arith, short, c.ports-test.false, c.ports.auto.k-end, c.len-k-end.ensures) in
    all_gain c.args.entry.now c.args.values.now kept_by_port (zip c.args.memory.now.reads c.args.of.now.kept) c.ports.k whole c.args.held.now c.ports.held c.ports.invariant
