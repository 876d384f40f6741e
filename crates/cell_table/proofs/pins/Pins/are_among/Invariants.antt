use Rattle.std.proofs.Common.{◌≡◌, map, drop}
use Rattle.std.specs.List.{list_any}
use Rattle.cell_table.specs.Seen.{is_seen}
use Rattle.cell_table.proofs.pins.Pins.are_among.Given as goal

abbrev pub invariant-loop-name : goal.invariant-loop-name
invariant-loop-name l =
    list_any (is_seen l.seen) (map (λ name. name.now) (drop l.name-index l.name-items)) ≡ list_any (is_seen l.seen) (map (λ name. name.now) l.name-items)
