use Rattle.std.proofs.Common.{rules}
use Rattle.verilog_tree.proofs.Terminals.{due_found, due_other}
use Rattle.verilog_tree.proofs.reader.Reader.expect.Goals as goal

pub returns-in-Some : goal.returns-in-Some
returns-in-Some c = due_found _ _ _ c.in-Some.found (cc) (search rules)

pub returns-in_default : goal.returns-in_default
returns-in_default c = due_other _ _ _ c.in-Some.found c.requires.within c.requires.plain (cc) (search rules)
