use Rattle.std.proofs.Common.{◌≡◌, ◌++◌, drop, false, get_or, length, map}
use Rattle.std.specs.Prelude.{IsTrue}
use Rattle.design_core.specs.Faults.{are_there}
use Rattle.event_replay.proofs.settling.push_values.Given as goal

abbrev pub invariant-nets : goal.invariant-nets
invariant-nets l =
    (l.bits.items ++ map (λ net. get_or l.values net.place false) (drop l.net-index l.nets) ≡ l.initial.bits.items ++ map (λ net. get_or l.values net.place false) l.nets)
    × IsTrue (are_there (length l.values) (drop l.net-index l.nets))
