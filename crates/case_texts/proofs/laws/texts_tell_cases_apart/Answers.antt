use Rattle.case_texts.proofs.OneCases.{one_case}
use Rattle.case_texts.proofs.laws.texts_tell_cases_apart.Goals as goal

pub returns : goal.returns
returns c = one_case c.each_text_has_one_design.ensures c.each_text_has_one_answer.ensures c.each_text_has_one_answer-2.ensures c.results_are_told_apart.ensures
