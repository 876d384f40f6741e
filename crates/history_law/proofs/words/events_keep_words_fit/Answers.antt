use Rattle.history_law.proofs.WordBounds.{events_keep_words_fit}
use Rattle.history_law.proofs.words.events_keep_words_fit.Goals as goal

pub returns : goal.returns
returns c = events_keep_words_fit
