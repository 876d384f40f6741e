use Rattle.std.proofs.Common.{◌≡◌, ◌++◌, drop}
use Rattle.std.specs.Prelude.{map}
use Rattle.cell_table.proofs.pins.Pins.add_write_clocks.Given as goal

abbrev pub invariant-loop-write : goal.invariant-loop-write
invariant-loop-write l = l.self ++ map (λ w. w.clock.pin) (drop l.write-index l.writes) ≡ l.initial.self ++ map (λ w. w.clock.pin) l.writes
