-- What the text holds from here on is, behind the tokens found, what it holds from its start on.
use Rattle.std.proofs.Common.{◌-◌, length}
use Rattle.verilog_lex.proofs.Cutting.{IsCutting}
use Rattle.verilog_lex.proofs.lex.tokens.Given as goal

abbrev pub invariant-pieces : goal.invariant-pieces
invariant-pieces l = IsCutting l.source l.implicit l.at l.found

abbrev pub decreases-pieces : goal.decreases-pieces
decreases-pieces l = length l.source - l.at
