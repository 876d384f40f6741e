-- Inside the rules A5, A8 and A10: what is asked of each action.
use Rattle.std.specs.Prelude.{◌≤◌, ℕ, Bool, length}
use Rattle.emu_machine.specs.declared.place.Place.{Place}
use Rattle.emu_machine.specs.declared.schedule.Action.{Action}
use Rattle.emu_machine.specs.State.{frame_slots}
use Rattle.emu_machine.specs.Acceptance.{Case, FailsA10, FailsA5, FailsA8, case_action_fits, keeps_subject, sends_inside}
use Rattle.shape_check.specs.Influences.{inside_of}
use Rattle.shape_check.specs.declared.actions.Test.{Test}
use Rattle.shape_check.specs.declared.actions.Test.TheVariants.{IsThere, KeepsSubject, SendsInside}

-- an action of slot `t` of frame `k` passes a test
abbrev pub passes : Case → Test → ℕ → ℕ → Action → Bool
passes c IsThere k t action = case_action_fits c k t action
passes c KeepsSubject k t action = keeps_subject c action
passes c (SendsInside spread) k t action = sends_inside c (inside_of spread.now k) action

-- the places at which actions do not pass
abbrev pub FailsTest : Case → Test → Place → Type 0
FailsTest c IsThere at = FailsA5 c at
FailsTest c KeepsSubject at = FailsA8 c at
FailsTest c (SendsInside spread) at = FailsA10 c (inside_of spread.now) at

-- there are no more frames, slots and actions than 32 bits number, with room for what is on its way
pub record AreFew (c : Case) : Type 0 where
  pub frames : length c.results.schedule.frames ≤ 33
  pub slots : (k : ℕ) → length (frame_slots c.results k) ≤ 65535
