use Rattle.std.proofs.Common.{rules}
use Rattle.verilog_tree.proofs.Terminals.{more_comma, more_end, more_other}
use Rattle.verilog_tree.proofs.reader.Reader.continues.Goals as goal

pub returns-in-Some-Comma-clause-ended : goal.returns-in-Some-Comma-clause-ended
returns-in-Some-Comma-clause-ended c = more_comma _ _ _ (cc)

pub returns-in-Some-clause-ended : goal.returns-in-Some-clause-ended
returns-in-Some-clause-ended c = more_end _ _ _ c.in-Some.found (cc) (search rules) (search rules)

pub returns-in_default-clause-ended : goal.returns-in_default-clause-ended
returns-in_default-clause-ended c = more_other _ _ _ c.in-Some.found c.requires.within c.requires.plain (cc) (search rules) (search rules)
