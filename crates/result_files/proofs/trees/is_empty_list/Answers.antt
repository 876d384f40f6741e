use Rattle.std.proofs.Common.{IsTrue, sym, subst, ◌∙◌}
use Rattle.result_files.proofs.Inside.{empty, is_empty}
use Rattle.result_files.proofs.trees.is_empty_list.Goals as goal

pub returns-in-Some : goal.returns-in-Some
returns-in-Some c =
    let values = c.in-Some.entries.now in (
      λ f. c.in-Some.ensures.entries ∙ empty values (subst IsTrue c.is_empty.ensures f),
      λ e. subst IsTrue (sym c.is_empty.ensures) (is_empty values (sym c.in-Some.ensures.entries ∙ e)),
    )
