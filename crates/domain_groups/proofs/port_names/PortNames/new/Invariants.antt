-- The names of the first ports are taken in, and there are no more of them than ports.
use Rattle.std.proofs.Common.{◌≤◌, length, take}
use Rattle.domain_groups.specs.Ports.{Indexes}
use Rattle.domain_groups.proofs.port_names.PortNames.new.Given as goal

abbrev pub invariant-ports : goal.invariant-ports
invariant-ports l = record {
  few : length l.names ≤ l.place;
  indexes : Indexes (take l.place l.ports) l.names l.firsts.items;
}
