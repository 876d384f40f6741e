use Rattle.case_texts.proofs.Faulty.{faulty_unread}
use Rattle.case_texts.proofs.laws.faulty_texts_are_unread.Goals as goal

pub returns : goal.returns
returns c =
    faulty_unread c.each_text_has_one_answer.ensures c.has_one_tree.ensures c.each_text_has_one_answer-2.ensures c.each_text_has_one_design.ensures c.each_tree_has_one_answer.ensures
    c.cycles_are_unranked.ensures c.each_text_has_one_answer-3.ensures c.each_opening_has_one_answer.ensures c.each_recording_has_one_answer.ensures c.each_text_has_one_answer-4.ensures
    c.netlists_are_told_apart.ensures
