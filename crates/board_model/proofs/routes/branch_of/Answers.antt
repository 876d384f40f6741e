use Rattle.std.proofs.Common.{◌∙◌, inl}
use Rattle.board_model.proofs.Parents.{parent_is, is_root, read_at}
use Rattle.board_model.proofs.routes.branch_of.Goals as goal

pub returns-in_err-parent : goal.returns-in_err-parent
returns-in_err-parent c =
    let is = read_at _ _ _ _ c.get.ensures (c.from.ensures ∙ c.place.ensures) in
    rw c.from_residual-in_err-parent.ensures
    (inl (is_root _ _ _ c.requires.distances _ _ (is ∙ c.in_ok-distance.was) c.in_err-parent.ensures))

pub returns : goal.returns
returns c =
    let is = read_at _ _ _ _ c.get.ensures (c.from.ensures ∙ c.place.ensures) in
    parent_is _ _ _ c.requires.distances _ _ (is ∙ c.in_ok-distance.was) _ c.in_ok-parent.ensures
