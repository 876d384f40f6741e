-- Texts in memory, whose calls fail where told.
use Rattle.std.specs.Prelude.{◌≡◌, ◌/◌, ℕ, Bool, true, false, List, [], length, take, if◌then◌else◌, nat_lt}
use Rattle.std.specs.Prelude.{Option, None, Some, Result, Ok, Err}
use Rattle.std.specs.Map.{lookup}
use Rattle.std.specs.BTreeMap.{is_at}
use Rattle.std.specs.Cmp.Lexicographic.{slice_cmp}
use Rattle.std.specs.Ordering.{nat_cmp}
use Rattle.emu_io.specs.declared.files.FetchFault.{FetchFault}
use Rattle.emu_io.specs.declared.files.FetchFault.TheVariants as fetch
use Rattle.emu_io.specs.declared.files.StoreFault.{StoreFault}
use Rattle.emu_io.specs.declared.files.StoreFault.TheVariants as store
use Rattle.emu_io.specs.Faults.{max_count, next_call, is_due, risen}
use Rattle.emu_io.specs.Files.{Held, Sets}

-- `entries` are names with their bytes; `failing` are the numbers of the calls that fail, and `next` is the number of
-- the next call, as long as numbers last
pub record MemoryState : Type 0 where
  pub entries : List (List ℕ × List ℕ)
  pub failing : List ℕ
  pub next : Option ℕ
  pub read_faults : ℕ
  pub store_faults : ℕ
  pub blamed : Option (List ℕ)

-- the bytes under each name
abbrev pub held_in : List (List ℕ × List ℕ) → Held
held_in entries name = lookup (is_at (slice_cmp nat_cmp name)) entries

-- nothing held and nothing failed yet
abbrev pub fresh : List ℕ → MemoryState
fresh failing = record { entries = []; failing = failing; next = Some 0; read_faults = 0; store_faults = 0; blamed = None }

-- whether the next call is to fail
abbrev pub is_failing : MemoryState → Bool
is_failing m = is_due m.failing m.next

-- one call more was made
abbrev pub counted : MemoryState → MemoryState
counted m = record m { next = next_call m.next }

-- one fetch more failed, and its name is blamed unless the count stands still
abbrev pub fetch_failed : MemoryState → List ℕ → MemoryState
fetch_failed m name = record (counted m) {
  read_faults = risen m.read_faults;
  blamed = (if nat_lt m.read_faults max_count then Some name else m.blamed);
}

-- one store more failed
abbrev pub store_failed : MemoryState → MemoryState
store_failed m = record (counted m) { store_faults = risen m.store_faults }

-- what the held bytes under a name answer within a limit
abbrev pub within : ℕ → Option (List ℕ) → Result (List ℕ) FetchFault
within limit None = Err fetch.Missing
within limit (Some bytes) = if nat_lt limit (length bytes) then Err fetch.TooLarge else Ok bytes

-- what a fetch answers where memory is left
abbrev pub fetched : MemoryState → List ℕ → ℕ → Result (List ℕ) FetchFault
fetched m name limit = if is_failing m then Err fetch.Failed else within limit (held_in m.entries name)

-- and what it leaves
abbrev pub after_fetch : MemoryState → List ℕ → MemoryState
after_fetch m name = if is_failing m then fetch_failed m name else counted m

-- By the answer of a fetch: it is the one due, and the object is as that leaves it; want of memory leaves it as it was.
abbrev pub FetchIs : {X : Type 0} → (X → List ℕ) → MemoryState → List ℕ → ℕ → MemoryState → Result X FetchFault → Type 0
FetchIs view m name limit new (Err fetch.NoMemory) = new ≡ m
FetchIs view m name limit new (Err fault) = (fetched m name limit ≡ Err fault) × (new ≡ after_fetch m name)
FetchIs view m name limit new (Ok x) = (fetched m name limit ≡ Ok (view x)) × (new ≡ after_fetch m name)

-- `new` is `after` with the bytes under the name
abbrev pub Stored : MemoryState → List ℕ → List ℕ → MemoryState → Type 0
Stored after name bytes new = Sets (held_in after.entries) name (Some bytes) (held_in new.entries)
    × (new ≡ record after { entries = new.entries })

-- By the answer of a store: all bytes where the call is to succeed, and the first half where it is to fail; want of
-- memory leaves the object as it was.
abbrev pub StoreIs : {X : Type 0} → MemoryState → List ℕ → List ℕ → MemoryState → Result X StoreFault → Type 0
StoreIs m name bytes new (Ok _) = (is_failing m ≡ false) × Stored (counted m) name bytes new
StoreIs m name bytes new (Err store.Failed) =
    (is_failing m ≡ true) × Stored (store_failed m) name (take (length bytes / 2) bytes) new
StoreIs m name bytes new (Err store.NoMemory) = new ≡ m

-- a copy is the one due, where memory is left
abbrev pub CopyIs : {X : Type 0} → (X → List ℕ) → Result (List ℕ) FetchFault → Result X FetchFault → Type 0
CopyIs view due (Err fetch.NoMemory) = Unit {0}
CopyIs view due (Err fault) = due ≡ Err fault
CopyIs view due (Ok x) = due ≡ Ok (view x)
