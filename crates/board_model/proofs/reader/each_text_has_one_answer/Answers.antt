use Rattle.board_model.proofs.OneAnswer.{one_answer}
use Rattle.board_model.proofs.reader.each_text_has_one_answer.Goals as goal

pub returns : goal.returns
returns c = one_answer
