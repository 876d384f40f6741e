-- The table of the words is the list of the words.
use Rattle.verilog_lex.specs.Words.{reserved_words}
use Rattle.verilog_lex.proofs.word.reserved_word.Goals as goal

pub returns : goal.returns
unfolding reserved_words
returns c = c.entry.ensures
