use Rattle.verilog_tree.proofs.LawsOfTexts as laws
use Rattle.verilog_tree.proofs.parser.texts_are_read.Goals as goal

pub returns : goal.returns
returns c = laws.texts_are_read
