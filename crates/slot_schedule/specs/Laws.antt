-- The laws of list plans.
-- The rules are told in docs/RULES.md, "List plans".
use Rattle.std.specs.Prelude.{◌≡◌}
use Rattle.slot_schedule.specs.declared.plan.PlanFrame.{PlanFrame}
use Rattle.slot_schedule.specs.Settings.{Setting}
use Rattle.slot_schedule.specs.Deliveries.{IsSetting}
use Rattle.slot_schedule.specs.Frames.{IsFrame}

-- a frame has at most one list plan
abbrev pub PlansAreOne : Type 0
PlansAreOne = (s : Setting) (first second : PlanFrame) → IsSetting s → IsFrame s first → IsFrame s second → first ≡ second
