use Rattle.std.proofs.Common.{rules, ◌∙◌}
use Rattle.std.proofs.lemmas.List.{take_rest}
use Rattle.event_replay.proofs.Pieces.{words_from, no_words, all_blank}
use Rattle.event_replay.proofs.lines.cut_word.Goals as goal

pub returns-in-Some-clause-words : goal.returns-in-Some-clause-words
returns-in-Some-clause-words c =
    words_from c.args.line.now c.in-Some.start (search rules) (search rules) ∙ (let cut = c.take_word.ensures.words in rw take_rest at cut)

pub returns-in-None-clause-words : goal.returns-in-None-clause-words
returns-in-None-clause-words c = (no_words c.args.line.now (search rules), all_blank c.args.line.now (search rules))
