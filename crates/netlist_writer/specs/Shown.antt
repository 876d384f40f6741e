-- Inside: terminals printed behind others.
use Rattle.std.specs.Prelude.{ℕ, Bool, true, false, List, [], ◌∷◌, ◌++◌, codes, flat_map}
use Rattle.id_arena.specs.declared.keys.ChipNetId.{ChipNetId}
use Rattle.netlist_writer.specs.NetlistText.{net_name, terminals}

-- the names of nets, where `some` tells whether one stands before them
abbrev pub shown : Bool → List ChipNetId → List ℕ
shown true nets = flat_map (λ m. codes ", " ++ net_name m) nets
shown false nets = terminals nets

-- whether one stands before what follows
abbrev pub goes_on : Bool → List ChipNetId → Bool
goes_on some [] = some
goes_on some (n ∷ nets) = true
