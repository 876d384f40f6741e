-- Inside the making of wires: the nets of ties, none of an absent one.
use Rattle.std.specs.Prelude.{Option, List, [], map, unwrap_or}
use Rattle.id_arena.specs.declared.keys.NetId.{NetId}

-- the nets of a tie
abbrev pub tie_nets : Option (List NetId) → List NetId
tie_nets tie = unwrap_or tie []

-- the nets of each tie
abbrev pub all_nets : List (Option (List NetId)) → List (List NetId)
all_nets ties = map tie_nets ties
