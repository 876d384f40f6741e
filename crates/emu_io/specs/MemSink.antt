-- A sink in memory, whose puts fail where told.
use Rattle.std.specs.Prelude.{◌≡◌, ◌/◌, ℕ, true, false, List, [], ◌++◌, length, take, Option, Some, Result, Ok, Err}
use Rattle.emu_io.specs.declared.files.StoreFault.{StoreFault}
use Rattle.emu_io.specs.declared.files.StoreFault.TheVariants as store
use Rattle.emu_io.specs.Faults.{is_due, next_call, risen}

-- `failing` are the numbers of the puts that fail, and `next` is the number of the next put, as long as numbers last
pub record SinkState : Type 0 where
  pub written : List ℕ
  pub failing : List ℕ
  pub next : Option ℕ
  pub faults : ℕ

-- nothing written and nothing failed yet
abbrev pub blank : List ℕ → SinkState
blank failing = record { written = []; failing = failing; next = Some 0; faults = 0 }

-- one put more was made
abbrev pub counted : SinkState → SinkState
counted s = record s { next = next_call s.next }

-- one put more failed
abbrev pub put_failed : SinkState → SinkState
put_failed s = record (counted s) { faults = risen s.faults }

-- with more bytes at the end
abbrev pub appended : SinkState → List ℕ → SinkState
appended s bytes = record s { written = s.written ++ bytes }

-- By the answer of a put: all bytes where it is to succeed, and the first half where it is to fail; want of memory
-- leaves the sink as it was.
abbrev pub PutIs : {X : Type 0} → SinkState → List ℕ → SinkState → Result X StoreFault → Type 0
PutIs s bytes new (Ok _) = (is_due s.failing s.next ≡ false) × (new ≡ appended (counted s) bytes)
PutIs s bytes new (Err store.Failed) =
    (is_due s.failing s.next ≡ true) × (new ≡ appended (put_failed s) (take (length bytes / 2) bytes))
PutIs s bytes new (Err store.NoMemory) = new ≡ s
