use Rattle.std.proofs.Common.{◌≡◌, drop}
use Rattle.std.specs.List.{list_all}
use Rattle.cycle_sim.specs.Takes.{takes_no_net}
use Rattle.cycle_sim.proofs.slots.take_no_nets.Given as goal

abbrev pub invariant-actions : goal.invariant-actions
invariant-actions l = list_all (takes_no_net l.wires) (drop l.action-index l.actions) ≡ list_all (takes_no_net l.wires) l.actions
