-- The last group leaves the stack, as the code does it.
use Rattle.std.proofs.Common.{◌≡◌, ◌<◌, ◌≤◌, ◌-◌, ◌↔◌, ℕ, Bool, true, List, length, get_or, take, sym, subst}
use Rattle.std.specs.Prelude.{IsTrue}
use Rattle.graph_cycle.specs.declared.search.Mark.{Mark}
use Rattle.graph_cycle.specs.Search.{IsSearch, IsLast, AreShut, Turns, Keeps, weight}
use Rattle.graph_cycle.proofs.Closing.{shuts, shuts_keep, shuts_less}

module _ (rows : List (List ℕ)) (marks : List Mark) (next stack work bounds : List ℕ) (s : IsSearch rows marks next stack work bounds)
    (b : ℕ) (last : IsLast bounds b) (idle : (k : ℕ) → k < length work → get_or work k 0 < b)
    (on : Bool) (read : List ℕ) (tells : IsTrue on ↔ Turns rows read b) (is : read ≡ stack)
    (after : List Mark) {again : List ℕ} (shut : AreShut marks again b (length again) on after) (is_again : again ≡ stack) where
  turning : IsTrue on → Turns rows stack b
  turning yes_on = subst (λ (xs : List ℕ). Turns rows xs b) is (tells.0 yes_on)

  still : Turns rows stack b → IsTrue on
  still t = tells.1 (subst (λ (xs : List ℕ). Turns rows xs b) (sym is) t)

  is_shut : AreShut marks stack b (length stack) on after
  is_shut = subst (λ (xs : List ℕ). AreShut marks xs b (length xs) on after) is_again shut

  pub closes : IsSearch rows after next (take b stack) work (take (length bounds - 1) bounds)
  closes = shuts rows marks next stack work bounds s b last idle on turning still after is_shut

  pub closes_keep : Keeps marks after
  closes_keep = shuts_keep rows marks next stack work bounds s b last idle on turning still after is_shut

  pub closes_less : weight rows after next work (take (length bounds - 1) bounds) < weight rows marks next work bounds
  closes_less = shuts_less rows marks next stack work bounds s b last idle on turning still after is_shut
