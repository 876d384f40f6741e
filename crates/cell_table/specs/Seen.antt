-- Inside the judge of pins: the pins that were seen, as a set.
use Rattle.std.specs.Prelude.{ℕ, List, Bool, bytes_eq}
use Rattle.std.specs.Borrow.{Bor}
use Rattle.std.specs.HashSet.{HashSet, contains_by}

-- whether a set of names has this one
abbrev pub is_seen : {S : Type 0} → HashSet (Bor (List ℕ)) S → List ℕ → Bool
is_seen seen pin = contains_by (λ name. bytes_eq pin name.now) seen
