-- The table of starts splits the words at each letter.
use Rattle.verilog_lex.proofs.Reserved.{starts-split}
use Rattle.verilog_lex.proofs.word.bucket_start.Goals as goal

pub returns : goal.returns
returns c = record { splits = starts-split c.args.letter c.requires.low c.requires.high }
