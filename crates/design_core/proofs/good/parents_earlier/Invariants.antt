-- Whether the scopes that are left are good decides of all.
use Rattle.std.proofs.Common.{◌≡◌, drop}
use Rattle.std.specs.List.{enumerate_from, list_all}
use Rattle.design_core.specs.Faults.{parent_earlier}
use Rattle.design_core.proofs.good.parents_earlier.Given as goal

abbrev pub invariant-scopes : goal.invariant-scopes
invariant-scopes l =
    list_all (λ (s, scope). parent_earlier s scope.parent) (enumerate_from l.place (drop l.place l.scopes))
    ≡ list_all (λ (s, scope). parent_earlier s scope.parent) (enumerate_from 0 l.scopes)
