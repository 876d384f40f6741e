-- What has changed since a pass, where each net has been set once at most.
-- The rule is told in docs/RULES.md, "Passes by change".
use Rattle.std.specs.Prelude.{◌≡◌, ◌≢◌, ℕ, ◌<◌, false, length, slice_index, Contains}
use Rattle.link_rows.specs.BitRows.{is_set}
use Rattle.graph_rank.specs.Rows.{row}
use Rattle.gate_pass.specs.Gates.{PassState, NoneDrives, value_on}

-- an input of a gate has another value than before
abbrev pub HasOtherInput : {T : Type 0} → T → PassState T → PassState T → ℕ → Type 0
HasOtherInput none old new k = (n : ℕ) × Contains (row old.inputs k) n × (value_on none new.values n ≢ value_on none old.values n)

-- Nets that no gate drives have been set since then. A gate waits only where one of them that it reads has another
-- value than then.
pub record IsSince {T : Type 0} (none : T) (old new : PassState T) : Type 0 where
  pub inputs : new.inputs ≡ old.inputs
  pub outputs : new.outputs ≡ old.outputs
  pub nets : length new.values ≡ length old.values
  pub driven : (k : ℕ) → k < length old.outputs → value_on none new.values (slice_index old.outputs k) ≡ value_on none old.values (slice_index old.outputs k)
  pub waits : (k : ℕ) → k < length old.outputs → is_set new.idle k ≡ false
      → (n : ℕ) × NoneDrives old.outputs n × Contains (row old.inputs k) n × (value_on none new.values n ≢ value_on none old.values n)
