-- Gates in ranked order, a value for each net, and which gates wait.
-- The rule is told in docs/RULES.md, "Passes by change".
use Rattle.std.specs.Prelude.{◌≡◌, ◌≢◌, ◌⊎◌, ℕ, ◌<◌, Bool, true, false, List, [], ◌∷◌, length, map, slice_index, slice_index_or, slice_set, Contains}
use Rattle.link_rows.specs.BitRows.{is_set}
use Rattle.graph_rank.specs.Rows.{row}

-- What contracts see of a pass: for each gate the nets that it reads and the net that it drives, for each net its
-- value, and for each gate whether it is idle.
pub record PassState (T : Type 0) : Type 0 where
  pub inputs : List (List ℕ)
  pub outputs : List ℕ
  pub values : List T
  pub idle : List Bool

-- the value of a net, or this one where there is no such net
abbrev pub value_on : {T : Type 0} → T → List T → ℕ → T
value_on none values n = slice_index_or values n none

-- no gate drives the net
abbrev pub NoneDrives : List ℕ → ℕ → Type 0
NoneDrives outputs n = (k : ℕ) → k < length outputs → slice_index outputs k ≢ n

-- Gates between so many nets: no two drive the same net, and each stands after those that drive what it reads.
pub record AreRanked (nets : ℕ) (inputs : List (List ℕ)) (outputs : List ℕ) : Type 0 where
  pub count : length inputs ≡ length outputs
  pub drives : (k : ℕ) → k < length outputs → slice_index outputs k < nets
  pub reads : (k n : ℕ) → Contains (row inputs k) n → n < nets
  pub once : (j k : ℕ) → j < length outputs → k < length outputs → slice_index outputs j ≡ slice_index outputs k → j ≡ k
  pub later : (j k : ℕ) → j < length outputs → Contains (row inputs k) (slice_index outputs j) → j < k

-- what a gate gives for the values of the nets that it reads
abbrev pub turn_gives : {T : Type 0} → (ℕ → List T → T) → T → List (List ℕ) → List T → ℕ → T
turn_gives gives none inputs values k = gives k (map (value_on none values) (row inputs k))

-- the net that a gate drives has what the gate gives
abbrev pub GateHolds : {T : Type 0} → (ℕ → List T → T) → T → PassState T → ℕ → Type 0
GateHolds gives none s k = value_on none s.values (slice_index s.outputs k) ≡ turn_gives gives none s.inputs s.values k

-- every gate holds
abbrev pub AllHold : {T : Type 0} → (ℕ → List T → T) → T → PassState T → Type 0
AllHold gives none s = (k : ℕ) → k < length s.outputs → GateHolds gives none s k

-- every gate that does not hold waits
abbrev pub OthersWait : {T : Type 0} → (ℕ → List T → T) → T → PassState T → Type 0
OthersWait gives none s = (k : ℕ) → k < length s.outputs → is_set s.idle k ≡ true → GateHolds gives none s k

-- no gate waits
abbrev pub NoneWaits : {T : Type 0} → PassState T → Type 0
NoneWaits s = (k : ℕ) → k < length s.outputs → is_set s.idle k ≡ true

-- A net has taken a value. Where that is another than before, the gates that read the net wait; all else is as it was.
pub record NetHasTaken {T : Type 0} (none : T) (n : ℕ) (value : T) (old new : PassState T) : Type 0 where
  pub inputs : new.inputs ≡ old.inputs
  pub outputs : new.outputs ≡ old.outputs
  pub values : new.values ≡ slice_set old.values n value
  pub gates : length new.idle ≡ length old.idle
  pub woken : (k : ℕ) → Contains (row old.inputs k) n → (is_set new.idle k ≡ false) ⊎ (value_on none old.values n ≡ value)
  pub still : (k : ℕ) → is_set old.idle k ≡ false → is_set new.idle k ≡ false
  pub only : (k : ℕ) → is_set new.idle k ≡ false → (is_set old.idle k ≡ false) ⊎ (Contains (row old.inputs k) n × (value_on none old.values n ≢ value))

-- After a pass every gate holds and none waits. Nets that no gate drives are as they were.
pub record HasSettled {T : Type 0} (gives : ℕ → List T → T) (none : T) (old new : PassState T) : Type 0 where
  pub inputs : new.inputs ≡ old.inputs
  pub outputs : new.outputs ≡ old.outputs
  pub nets : length new.values ≡ length old.values
  pub gates : length new.idle ≡ length old.idle
  pub free : (n : ℕ) → NoneDrives old.outputs n → value_on none new.values n ≡ value_on none old.values n
  pub holds : AllHold gives none new
  pub rests : NoneWaits new

-- each number is greater than all that follow it
abbrev pub AreFalling : List ℕ → Type 0
AreFalling [] = Unit {0}
AreFalling (x ∷ xs) = ((y : ℕ) → Contains xs y → y < x) × AreFalling xs

-- a gate waited, or a net that it reads has another value than before
abbrev pub IsDue : {T : Type 0} → T → PassState T → PassState T → ℕ → Type 0
IsDue none old new k =
    (is_set old.idle k ≡ false)
    ⊎ ((n : ℕ) × Contains (row old.inputs k) n × (value_on none new.values n ≢ value_on none old.values n))

-- Gates that have had a turn, the last one first and each once, were due.
pub record WereDue {T : Type 0} (none : T) (old new : PassState T) (turns : List ℕ) : Type 0 where
  pub falling : AreFalling turns
  pub there : (k : ℕ) → Contains turns k → k < length old.outputs
  pub due : (k : ℕ) → Contains turns k → IsDue none old new k

-- Two tables of values for the same gates, in which every gate holds, are the same where they agree on the nets that
-- no gate drives.
abbrev pub ValuesAreUnique : {T : Type 0} → T → Type 0
ValuesAreUnique {T} none =
    (gives : ℕ → List T → T) (s t : PassState T)
    → AreRanked (length s.values) s.inputs s.outputs
    → t.inputs ≡ s.inputs
    → t.outputs ≡ s.outputs
    → length t.values ≡ length s.values
    → ((n : ℕ) → NoneDrives s.outputs n → value_on none t.values n ≡ value_on none s.values n)
    → AllHold gives none s
    → AllHold gives none t
    → t.values ≡ s.values
