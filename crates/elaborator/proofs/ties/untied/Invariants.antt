use Rattle.std.proofs.Common.{◌≡◌, None}
use Rattle.std.specs.Prelude.{replicate}
use Rattle.elaborator.proofs.ties.untied.Given as goal

abbrev pub invariant-ties : goal.invariant-ties
invariant-ties l = l.ties ≡ replicate l.counter None
