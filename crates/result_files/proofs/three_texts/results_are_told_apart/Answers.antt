use Rattle.result_files.proofs.ThreeTexts.{one_result}
use Rattle.result_files.proofs.three_texts.results_are_told_apart.Goals as goal

pub returns : goal.returns
returns c = one_result c.each_text_has_one_answer.ensures c.netlists_are_told_apart.ensures
