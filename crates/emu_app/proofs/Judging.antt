-- What judging a case answers.
use Rattle.std.proofs.Common.{ℕ, Bool, false, refl}
use Rattle.design_core.specs.declared.node.NodeId.{NodeId}
use Rattle.emu_machine.specs.declared.place.Place.{Place}
use Rattle.emu_machine.specs.declared.rule.Rule.{Rule}
use Rattle.emu_machine.specs.Acceptance.{Case, IsAccepted, IsFirstFailure}
use Rattle.emu_machine.specs.Law.{AcceptedAgrees, IsCase}
use Rattle.shape_check.specs.declared.verdict.Verdict.TheVariants.{Rejected}
use Rattle.shape_check.specs.Verdict.{IsShapeVerdict}
use Rattle.emu_app.specs.declared.answer.Answer.TheVariants as answer
use Rattle.emu_app.specs.Answers.{JudgesAll}
use Rattle.emu_app.specs.Runs.{CanReplay}
use Rattle.emu_app.proofs.FreeTests.{not_accepted}

-- where all rules hold, the results are accepted, and the machine agrees with the design
pub accepts_all : AcceptedAgrees → (c : Case) → IsCase c → IsAccepted c → JudgesAll c (answer.Accepted c.results)
accepts_all law c case accepted top texts stand =
    record { judged = c; stand = stand; accepted = accepted; headline = law c case accepted; shown = refl }

-- where there is a first failure, it is answered
pub rejects_all : (c : Case) (rule : Rule) (at : Place) → IsFirstFailure c rule at → JudgesAll c (answer.Rejected rule at)
rejects_all c rule at first top texts stand =
    record { judged = c; stand = stand; first = first; rejected = not_accepted c rule at first }

-- where one of the rules A1 to A9 fails, they do not all hold
pub unfit : (c : Case) (rule : Rule) (at : Place) → IsShapeVerdict c (Rejected rule at) → CanReplay c → ⊥
unfit c rule at verdict fit = fit none rule verdict.0 at (verdict.1 none).least.0
  where
    none : ℕ → NodeId → Bool
    none k n = false
