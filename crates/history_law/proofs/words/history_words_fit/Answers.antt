use Rattle.history_law.proofs.WordBounds.{history_words_fit}
use Rattle.history_law.proofs.words.history_words_fit.Goals as goal

pub returns : goal.returns
returns c = history_words_fit
