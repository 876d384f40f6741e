use Rattle.std.proofs.Common.{◌≡◌, ℕ, List, map, take, false}
use Rattle.std.specs.Prelude.{bytes_eq}
use Rattle.std.specs.List.{list_any}
use Rattle.std.specs.Borrow.{Bor}
use Rattle.std.specs.HashSet.{contains}
use Rattle.cell_table.specs.Pins.{has_twice}
use Rattle.cell_table.proofs.pins.Pins.stand_twice.Given as goal

abbrev pub invariant-loop-name : goal.invariant-loop-name
invariant-loop-name l = record {
  once : has_twice (map (λ name. name.now) (take l.name-index l.name-items)) ≡ false;
  seen : (q : Bor (List ℕ)) → contains (λ x y. bytes_eq x.now y.now) l.seen q ≡ list_any (bytes_eq q.now) (map (λ name. name.now) (take l.name-index l.name-items));
}
