use Rattle.std.proofs.Common.{◌≡◌, ◌++◌, map, drop}
use Rattle.std.specs.Prelude.{flat_map}
use Rattle.id_arena.specs.declared.keys.NetId.{NetId}
use Rattle.design_core.specs.Design.{read_reads}
use Rattle.gain_place.proofs.pins.add_reads.Given as goal

abbrev pub invariant-ports : goal.invariant-ports
invariant-ports l =
    l.row.items ++ map (λ (n : NetId). n.place) (flat_map read_reads (drop l.port-index l.ports))
    ≡ l.initial.row.items ++ map (λ (n : NetId). n.place) (flat_map read_reads l.ports)
