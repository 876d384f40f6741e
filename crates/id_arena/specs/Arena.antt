-- What the contracts of the lists with keys speak of.
use Rattle.std.specs.Prelude.{ℕ}

-- the greatest number of items, the last that 32 bits hold
abbrev pub item_limit : ℕ
item_limit = 4294967295
