use Rattle.history_law.proofs.WordBounds.{opened_words_fit}
use Rattle.history_law.proofs.words.opened_words_fit.Goals as goal

pub returns : goal.returns
returns c = opened_words_fit
