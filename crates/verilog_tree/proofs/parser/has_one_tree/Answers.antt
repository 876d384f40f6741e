use Rattle.verilog_tree.proofs.UniqueModules.{unique_source}
use Rattle.verilog_tree.proofs.parser.has_one_tree.Goals as goal

pub returns : goal.returns
returns c = unique_source
