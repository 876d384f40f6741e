use Rattle.std.proofs.Common.{◌≡◌, ◌++◌, map, drop}
use Rattle.id_arena.specs.declared.keys.NetId.{NetId}
use Rattle.gain_place.proofs.pins.add_nets.Given as goal

abbrev pub invariant-nets : goal.invariant-nets
invariant-nets l =
    l.row.items ++ map (λ (n : NetId). n.place) (drop l.net-index l.nets)
    ≡ l.initial.row.items ++ map (λ (n : NetId). n.place) l.nets
