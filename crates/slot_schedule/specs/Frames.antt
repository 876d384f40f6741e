-- The steps of a list plan, and the length of its frame.
-- The rules are told in docs/RULES.md, "List plans".
use Rattle.std.specs.Prelude.{◌≡◌, ◌+◌, ℕ, Option, Some, None, List, [], ◌∷◌, max, flat_map, option_and_then, slice_get}
use Rattle.std.specs.Option.{option_map_or}
use Rattle.id_arena.specs.declared.keys.ElemId.{ElemId}
use Rattle.id_arena.specs.declared.keys.MemId.{MemId}
use Rattle.design_core.specs.declared.element.Driver.{Driver}
use Rattle.design_core.specs.declared.element.Driver.TheVariants.{Elem}
use Rattle.design_core.specs.declared.element.Edge.{Edge}
use Rattle.design_core.specs.declared.element.Element.{Element}
use Rattle.design_core.specs.declared.element.Element.TheVariants as element
use Rattle.design_core.specs.Design.{driver}
use Rattle.slot_schedule.specs.declared.plan.PlanAct.{PlanAct}
use Rattle.slot_schedule.specs.declared.plan.PlanAct.TheVariants as act
use Rattle.slot_schedule.specs.declared.plan.PlanFrame.{PlanFrame}
use Rattle.slot_schedule.specs.declared.plan.PlanStep.{PlanStep}
use Rattle.slot_schedule.specs.Settings.{Setting}
use Rattle.slot_schedule.specs.ListPlan.{Plan, Task, IsListPlan, tasks}
use Rattle.slot_schedule.specs.ListPlan.Task.{Fetch, Settle, Store, Deliver}

-- something that is done in a slot
abbrev pub step : ℕ → PlanAct → PlanStep
step slot act = record { slot = slot; act = act }

-- a flip-flop is loaded, and so is the hold of a latch; a gate needs no step
abbrev pub element_steps : Plan → ElemId → Option Element → List PlanStep
element_steps plan e (Some (element.Flop f)) = step (plan.load e) (act.Flop e) ∷ []
element_steps plan e (Some (element.Latch l)) = step (plan.load e) (act.Hold e) ∷ []
element_steps plan e other = []

-- what is done for a net, by what drives it
abbrev pub driver_steps : Setting → Plan → Driver → List PlanStep
driver_steps s plan (Elem e) = element_steps plan e (slice_get s.design.elements e.place)
driver_steps s plan other = []

-- the registers of a clocked port are loaded too
abbrev pub bits_steps : Plan → MemId → ℕ → Option Edge → List PlanStep
bits_steps plan m r None = []
bits_steps plan m r (Some edge) = step (plan.bits m r) (act.Bits m r) ∷ []

-- the clock of a read port, where it has one
abbrev pub read_clock : Setting → MemId → ℕ → Option Edge
read_clock s m r =
    option_and_then (λ memory. option_and_then (λ port. port.clock) (slice_get memory.reads r)) (slice_get s.design.memories m.place)

-- what is done for a task
abbrev pub task_steps : Setting → Plan → Task → List PlanStep
task_steps s plan (Fetch m r) =
    step (plan.read m r) (act.Read m r) ∷ bits_steps plan m r (read_clock s m r)
task_steps s plan (Settle n) = driver_steps s plan (driver s.design n.place)
task_steps s plan (Store m k) = step (plan.write m k) (act.Write m k) ∷ []
task_steps s plan (Deliver n chip) =
    step (plan.sent n chip) (act.Send n (record { place = plan.wire n chip })) ∷ []

-- all steps: slot 0 samples, then each task in planning order
abbrev pub steps : Setting → Plan → List PlanStep
steps s plan = step 0 act.Sample ∷ flat_map (task_steps s plan) (tasks s)

-- how many slots a step takes: a send its wire's latency, all else one
abbrev pub slots_of : Setting → PlanAct → ℕ
slots_of s (act.Send n wire) = option_map_or (λ is. is.latency) (slice_get s.board.wires wire.place) 1
slots_of s other = 1

-- the slot after those that a step takes
abbrev pub end_of : Setting → PlanStep → ℕ
end_of s step = step.slot + slots_of s step.act

-- the greatest of these for some steps
abbrev pub end : Setting → List PlanStep → ℕ
end s [] = 0
end s (first ∷ rest) = max (end_of s first) (end s rest)

-- the frame of a list plan: its steps, and as many slots as they take
pub record IsFrame (s : Setting) (frame : PlanFrame) : Type 0 where
  pub plan : Plan
  pub is_plan : IsListPlan s plan
  pub steps : frame.steps ≡ steps s plan
  pub length : frame.length ≡ end s frame.steps
