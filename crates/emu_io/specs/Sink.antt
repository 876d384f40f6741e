-- What putting bytes into a sink means.
use Rattle.std.specs.Prelude.{◌≡◌, ℕ, ◌≤◌, List, ◌++◌, length, take, Option, Some, Result, Ok, Err, IfSome}
use Rattle.emu_io.specs.declared.files.StoreFault.{StoreFault}
use Rattle.emu_io.specs.declared.files.StoreFault.TheVariants as store
use Rattle.emu_io.specs.Faults.{Rose}

-- where the old sink told what was written, the new one tells it too: `more` came at the end
abbrev pub AppendsWhereTold : Option (List ℕ) → List ℕ → Option (List ℕ) → Type 0
AppendsWhereTold old more new = IfSome old (λ written. new ≡ Some (written ++ more))

-- By the answer of a put. Ok appends all bytes; a failure shows in the count and appends some first bytes; want of
-- memory changes nothing.
abbrev pub PutMeans : {X : Type 0} → Option (List ℕ) → Option (List ℕ) → ℕ → ℕ → List ℕ → Result X StoreFault → Type 0
PutMeans old new before now bytes (Ok _) = AppendsWhereTold old bytes new
PutMeans old new before now bytes (Err store.Failed) =
    Rose before now × ((count : ℕ) × (count ≤ length bytes) × AppendsWhereTold old (take count bytes) new)
PutMeans old new before now bytes (Err store.NoMemory) = (new ≡ old) × (now ≡ before)
