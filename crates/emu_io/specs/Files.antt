-- What fetching and storing texts by name means.
use Rattle.std.specs.Prelude.{◌≡◌, ℕ, ◌<◌, ◌≤◌, List, length, Option, None, Some, Result, Ok, Err, IfSome, MatchOption}
use Rattle.emu_io.specs.declared.files.FetchFault.{FetchFault}
use Rattle.emu_io.specs.declared.files.FetchFault.TheVariants as fetch
use Rattle.emu_io.specs.declared.files.StoreFault.{StoreFault}
use Rattle.emu_io.specs.declared.files.StoreFault.TheVariants as store
use Rattle.emu_io.specs.Faults.{Rose}

-- the bytes under each name that is held
abbrev pub Held : Type 0
Held = List ℕ → Option (List ℕ)

-- By the answer of a fetch. Where the object tells what it holds, the bytes are the held ones, `Missing` says that the
-- name is not held, and `TooLarge` that more than `limit` bytes are; neither is a failure. Else each of these, as
-- `Failed` always, is a failure that the count shows. Want of memory changes no count.
abbrev pub FetchMeans : {X : Type 0} → (X → List ℕ) → Option Held → ℕ → ℕ → List ℕ → ℕ → Result X FetchFault → Type 0
FetchMeans view told before now name limit (Ok x) = IfSome told (λ held. held name ≡ Some (view x))
FetchMeans view told before now name limit (Err fetch.Failed) = Rose before now
FetchMeans view told before now name limit (Err fetch.Missing) =
    MatchOption told (Rose before now) (λ held. (held name ≡ None) × (now ≡ before))
FetchMeans view told before now name limit (Err fetch.TooLarge) =
    MatchOption told (Rose before now) (λ held. (bytes : List ℕ) × (held name ≡ Some bytes) × (limit < length bytes) × (now ≡ before))
FetchMeans view told before now name limit (Err fetch.NoMemory) = now ≡ before

-- A count of failed fetches never falls. Where it stays, so does the name that is blamed; where it rose, the blamed
-- name, if any is told, is the one that was fetched.
pub record Blames (before now : ℕ) (name : List ℕ) (old new : Option (List ℕ)) : Type 0 where
  pub later : before ≤ now
  pub same : now ≡ before → new ≡ old
  pub blamed : before < now → IfSome new (λ told. told ≡ name)

-- `new` holds `bytes` under the name (None: the name is not held), and all else as `old` does
pub record Sets (old : Held) (name : List ℕ) (bytes : Option (List ℕ)) (new : Held) : Type 0 where
  pub here : new name ≡ bytes
  pub others : (other : List ℕ) → (other ≡ name → ⊥) → new other ≡ old other

-- where the old object told what it held, the new one tells it too, and it is the same but for that name
abbrev pub SetsWhereTold : Option Held → List ℕ → Option (List ℕ) → Option Held → Type 0
SetsWhereTold old name bytes new = IfSome old (λ held. (after : Held) × (new ≡ Some after) × Sets held name bytes after)

-- By the answer of a store. Ok sets the name; a failure shows in the count and leaves anything under the name; want of
-- memory changes nothing.
abbrev pub StoreMeans : {X : Type 0} → Option Held → Option Held → ℕ → ℕ → List ℕ → List ℕ → Result X StoreFault → Type 0
StoreMeans old new before now name bytes (Ok _) = SetsWhereTold old name (Some bytes) new
StoreMeans old new before now name bytes (Err store.Failed) =
    Rose before now × ((left : Option (List ℕ)) × SetsWhereTold old name left new)
StoreMeans old new before now name bytes (Err store.NoMemory) = (new ≡ old) × (now ≡ before)
