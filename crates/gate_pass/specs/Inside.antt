-- Inside: what a pass keeps, and where it stands between two turns.
use Rattle.std.specs.Prelude.{◌≡◌, ◌⊎◌, ℕ, ◌+◌, ◌<◌, ◌≤◌, Bool, true, false, List, Some, length, slice_get, slice_index, slice_set, Contains}
use Rattle.link_rows.specs.BitRows.{is_set}
use Rattle.gate_pass.specs.Gates.{PassState, AreRanked, NoneDrives, value_on, turn_gives, OthersWait, NetHasTaken, IsDue, WereDue}
use Rattle.gate_pass.specs.Readers.{AreReaders}

-- a table of ranked gates, with the readers of each net and a bit for each gate
pub record IsPass {T : Type 0} (inputs : List (List ℕ)) (outputs : List ℕ) (readers : List (List ℕ)) (values : List T) (idle : List Bool) : Type 0 where
  pub ranked : AreRanked (length values) inputs outputs
  pub read : AreReaders (length values) inputs readers
  pub gates : length idle ≡ length outputs

-- the gates before a place of a list wait, and otherwise just those that waited and some of the list
pub record AreWokenTo (gates : List ℕ) (place : ℕ) (old new : List Bool) : Type 0 where
  pub size : length new ≡ length old
  pub woken : (j k : ℕ) → j < place → slice_get gates j ≡ Some k → is_set new k ≡ false
  pub still : (k : ℕ) → is_set old k ≡ false → is_set new k ≡ false
  pub only : (k : ℕ) → is_set new k ≡ false → (is_set old k ≡ false) ⊎ Contains gates k

-- the gates of a list wait, and otherwise just those that waited
pub record AreWoken (gates : List ℕ) (old new : List Bool) : Type 0 where
  pub size : length new ≡ length old
  pub woken : (k : ℕ) → Contains gates k → is_set new k ≡ false
  pub still : (k : ℕ) → is_set old k ≡ false → is_set new k ≡ false
  pub only : (k : ℕ) → is_set new k ≡ false → (is_set old k ≡ false) ⊎ Contains gates k

-- a pass in which a gate waits no more
abbrev pub rested : {T : Type 0} → PassState T → ℕ → PassState T
rested s k = record s { idle = slice_set s.idle k true }

-- a gate waits no more, and its net has taken what the gate gives
abbrev pub HasHadTurn : {T : Type 0} → (ℕ → List T → T) → T → ℕ → PassState T → PassState T → Type 0
HasHadTurn gives none k old new = NetHasTaken none (slice_index old.outputs k) (turn_gives gives none old.inputs old.values k) (rested old k) new

-- Gates below a place have had their turns, and none of them waits. A gate that waits is due, and nets that no gate
-- below the place drives are as they were.
pub record IsInPass {T : Type 0} (gives : ℕ → List T → T) (none : T) (old new : PassState T) (at : ℕ) : Type 0 where
  pub inputs : new.inputs ≡ old.inputs
  pub outputs : new.outputs ≡ old.outputs
  pub nets : length new.values ≡ length old.values
  pub gates : length new.idle ≡ length old.idle
  pub free : (n : ℕ) → NoneDrives old.outputs n → value_on none new.values n ≡ value_on none old.values n
  pub later : (k : ℕ) → at ≤ k → k < length old.outputs → value_on none new.values (slice_index old.outputs k) ≡ value_on none old.values (slice_index old.outputs k)
  pub below : (k : ℕ) → k < at → k < length old.outputs → is_set new.idle k ≡ true
  pub hold : OthersWait gives none new
  pub due : (k : ℕ) → k < length old.outputs → is_set new.idle k ≡ false → IsDue none old new k

-- gates below a place have had turns, each once, and were due; no more steps than turns were counted
pub record HaveCounted {T : Type 0} (none : T) (old new : PassState T) (at before after : ℕ) : Type 0 where
  pub turns : List ℕ
  pub were_due : WereDue none old new turns
  pub below : (k : ℕ) → Contains turns k → k < at
  pub counted : after ≤ before + length turns
