use Rattle.std.proofs.Common.{◌≡◌, Some, map}
use Rattle.std.specs.List.{range_with_len}
use Rattle.flattening.specs.Pieces.{joined}
use Rattle.flattening.specs.Places.{index_at}
use Rattle.elaborator.specs.Walk.{nets_alone, with_indices}
use Rattle.elaborator.proofs.entering.push_range.Given as goal

abbrev pub invariant-bits : goal.invariant-bits
invariant-bits l =
    l.making ≡ joined l.initial.making (nets_alone (with_indices l.scope l.name (map (λ bit. Some (index_at l.range bit)) (range_with_len 0 l.bit))))
