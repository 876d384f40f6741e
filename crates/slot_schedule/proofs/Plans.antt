-- A frame has at most one list plan.
use Rattle.std.proofs.Common.{◌≡◌, ◌++◌, ℕ, suc, List, [], ◌∷◌, refl, sym, ◌∙◌, ap, arith}
use Rattle.std.specs.Prelude.{Contains, flat_map}
use Rattle.clock_rank.specs.Answers.{OrdersAreSorted}
use Rattle.slot_schedule.specs.declared.plan.PlanFrame.{PlanFrame}
use Rattle.slot_schedule.specs.declared.plan.PlanStep.{PlanStep}
use Rattle.slot_schedule.specs.ListPlan.{tasks}
use Rattle.slot_schedule.specs.Frames.{task_steps, steps, step, end}
use Rattle.slot_schedule.specs.Laws.{PlansAreOne}
use Rattle.slot_schedule.specs.declared.plan.PlanAct.TheVariants as act
use Rattle.slot_schedule.proofs.Agreement.{steps_same}
use Rattle.slot_schedule.proofs.Walks.{all_same}

same_for_all : {X A : Type 0} (f g : X → List A) (xs : List X) → ((x : X) → Contains xs x → f x ≡ g x) → flat_map f xs ≡ flat_map g xs
same_for_all f g [] same = refl
same_for_all f g (x ∷ xs) same =
    let here = same x (0, omega arith, refl) in
    let rest = same_for_all f g xs (λ y h. same y (suc h.0, omega (arith, h.1), h.2)) in
    ap (λ ys. ys ++ flat_map f xs) here ∙ ap (λ ys. g x ++ ys) rest

same_frame : (first second : PlanFrame) → first.length ≡ second.length → first.steps ≡ second.steps → first ≡ second
same_frame first second long steps =
    ap (λ (k : ℕ). record { length = k; steps = first.steps }) long ∙ ap (λ (xs : List PlanStep). record { length = second.length; steps = xs }) steps

pub plans_are_one : OrdersAreSorted → PlansAreOne
plans_are_one sorted s first second ok a b = same_frame first second long same
  where
    steps_are : steps s a.plan ≡ steps s b.plan
    steps_are =
        ap (λ (xs : List PlanStep). step 0 act.Sample ∷ xs)
        (same_for_all (task_steps s a.plan) (task_steps s b.plan) (tasks s)
        (λ t h. steps_same s a.plan b.plan t (all_same s ok (sorted s.design s.order ok.order) a.plan b.plan a.is_plan b.is_plan t h)))

    same : first.steps ≡ second.steps
    same = a.steps ∙ steps_are ∙ sym b.steps

    long : first.length ≡ second.length
    long = a.length ∙ ap (λ (xs : List PlanStep). end s xs) same ∙ sym b.length
