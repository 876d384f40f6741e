-- The law is a fact about the definitions alone.
use Rattle.verilog_lex.proofs.OneAnswer.{one_answer}
use Rattle.verilog_lex.proofs.lex.each_text_has_one_answer.Goals as goal

pub returns : goal.returns
returns c = one_answer
