use Rattle.std.proofs.Common.{◌<◌, ◌≤◌, length, zip, arith}
use Rattle.cycle_sim.specs.Loading.{kept_as_q}
use Rattle.facts.proofs.Places.{zip_at}
use Rattle.cycle_sim.proofs.Loads.{next_gains, all_gain, zip_short}
use Rattle.cycle_sim.proofs.loaded.hold_registers.Goals as goal

pub hold_register-requires-clause-there : goal.hold_register-requires-clause-there
hold_register-requires-clause-there c =
    let low : c.get.result.now.q.place < c.args.chip.now.nets = (c.requires.chip.registers c.registers.k c.get.result.now c.get.ensures).q in
    omega (arith, low, c.requires.held, c.registers.invariant.size)

pub registers-preserved : goal.registers-preserved
registers-preserved c =
    next_gains c.args.entry.now c.args.values.now kept_as_q (zip c.args.chip.now.registers c.args.entry.now.kept) c.registers.k (c.get.result.now, c.get-in-registers.result.now)
    (zip_at c.args.chip.now.registers c.args.entry.now.kept c.registers.k c.get.result.now c.get-in-registers.result.now c.get.ensures c.get-in-registers.ensures)
    c.args.held.now c.registers.held c.hold_register.new.held c.registers.invariant c.hold_register.ensures

pub returns : goal.returns
returns c =
    let short : length (zip c.args.chip.now.registers c.args.entry.now.kept) ≤ length c.args.chip.now.registers = zip_short c.args.chip.now.registers c.args.entry.now.kept in
    let whole : length (zip c.args.chip.now.registers c.args.entry.now.kept) ≤ c.registers.k = omega (arith, short, c.registers-test.false, c.registers.auto.k-end, c.len-k-end.ensures) in
    all_gain c.args.entry.now c.args.values.now kept_as_q (zip c.args.chip.now.registers c.args.entry.now.kept) c.registers.k whole c.args.held.now c.registers.held c.registers.invariant
