use Rattle.flattening.proofs.OneDesign.{one_design}
use Rattle.flattening.proofs.laws.each_text_has_one_design.Goals as goal

pub returns : goal.returns
returns c = one_design c.each_text_has_one_answer.ensures c.has_one_tree.ensures c.each_text_has_one_answer-2.ensures
