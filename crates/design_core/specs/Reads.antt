-- The least net without a driver among nets that are read.
-- The rule is told in docs/RULES.md, "Building a design".
use Rattle.std.specs.Prelude.{ℕ, nat_lt, Bool, true, false, if◌then◌else◌, Option, Some, None, List, [], ◌∷◌, get_or}
use Rattle.id_arena.specs.declared.keys.NetId.{NetId}
use Rattle.design_core.specs.declared.drives.Driven.{Driven}
use Rattle.design_core.specs.declared.drives.Driven.TheVariants.{Never, Twice}

-- whether nothing drives a net
abbrev pub is_never : Driven → Bool
is_never Never = true
is_never other = false

abbrev pub never_at : List Driven → ℕ → Bool
never_at table n = is_never (get_or table n Twice)

-- the lesser of two nets
abbrev pub lesser : Option NetId → NetId → Option NetId
lesser None n = Some n
lesser (Some m) n = if nat_lt n.place m.place then Some n else Some m

-- the least net without a driver, of one so far and one more
abbrev pub lower : List Driven → Option NetId → NetId → Option NetId
lower table least n = if never_at table n.place then lesser least n else least

-- the same of one so far and some more
abbrev pub lowest : List Driven → Option NetId → List NetId → Option NetId
lowest table least [] = least
lowest table least (n ∷ ns) = lowest table (lower table least n) ns
