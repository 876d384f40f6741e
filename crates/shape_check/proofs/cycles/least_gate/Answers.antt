-- A chip that is there is one of a built netlist, and one that is not has no gates.
use Rattle.std.proofs.Common.{sym}
use Rattle.shape_check.proofs.Turning.{driven, no_cycle, same_told}
use Rattle.shape_check.proofs.cycles.least_gate.Goals as goal

pub least_cyclic_gate-requires : goal.least_cyclic_gate-requires
least_cyclic_gate-requires c = driven c.args.case.now.results.net c.stands.ensures.netlist c.args.chip.place c.in-Some.found.now (sym c.in-Some.ensures)

pub returns-in-None : goal.returns-in-None
returns-in-None c = no_cycle c.args.case.now.results.net c.args.chip.place (sym c.in-None.ensures)

pub returns-in-Some : goal.returns-in-Some
returns-in-Some c =
    same_told c.args.case.now.results.net c.args.chip.place c.in-Some.found.now c.least_cyclic_gate.result (sym c.in-Some.ensures) c.least_cyclic_gate.ensures
