use Rattle.history_law.proofs.Untouched.{outside_keeps_words}
use Rattle.history_law.proofs.outside.outside_keeps_words.Goals as goal

pub returns : goal.returns
returns c = outside_keeps_words
