-- Counts of failures, which stand still at their last value, and the calls that are to fail.
use Rattle.std.specs.Prelude.{◌==◌, ℕ, ◌+◌, ◌-◌, ◌^◌, ◌≤◌, min, Bool, false, List, Option, None, Some, if◌then◌else◌, nat_lt}
use Rattle.std.specs.List.{list_any}

-- the last value of a count
abbrev pub max_count : ℕ
max_count = 2 ^ 64 - 1

-- the count after one more failure
abbrev pub risen : ℕ → ℕ
risen count = min (count + 1) max_count

-- the count rose from `before` to `now`, or stands at its last value
abbrev pub Rose : ℕ → ℕ → Type 0
Rose before now = risen before ≤ now

-- the number of the call after this one; None once numbers have run out, so that no two calls have one number
abbrev pub next_call : Option ℕ → Option ℕ
next_call None = None
next_call (Some number) = if nat_lt number max_count then Some (number + 1) else None

-- whether the call with this number is among those that are to fail
abbrev pub is_due : List ℕ → Option ℕ → Bool
is_due failing None = false
is_due failing (Some number) = list_any (λ n. n == number) failing
