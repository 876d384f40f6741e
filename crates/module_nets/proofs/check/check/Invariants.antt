use Rattle.std.proofs.Common.{◌<◌, ◌≡◌, ◌≤◌, ℕ, None, length, take}
use Rattle.module_nets.specs.Declarations.{cause_at}
use Rattle.module_nets.specs.Surveys.{AreSeen, text_in}
use Rattle.module_nets.proofs.check.check.Given as goal

abbrev pub invariant-mentions : goal.invariant-mentions
invariant-mentions l =
    AreSeen (text_in l.survey) l.survey.names (take l.mention-index l.mentions) l.seen
    × ((k : ℕ) → k < l.mention-index → cause_at (text_in l.survey) l.mentions k ≡ None)
