use Rattle.std.proofs.Common.{◌≡◌, true, get_or, rules}
use Rattle.std.proofs.lemmas.List.{take_rest}
use Rattle.domain_groups.specs.Lines.{is_blank}
use Rattle.event_replay.proofs.Pieces.{word_cut, word_last, after_first}
use Rattle.event_replay.proofs.lines.take_word.Goals as goal

pub returns-in-Some-clause-words : goal.returns-in-Some-clause-words
returns-in-Some-clause-words c =
    let here : is_blank (get_or c.args.line.now c.in-Some.end 0) ≡ true = search rules in
    rw take_rest (word_cut c.args.line.now c.in-Some.end (after_first c.args.line.now c.in-Some.end here c.requires.first) (search rules) here (search rules))

pub returns-in-None-clause-words : goal.returns-in-None-clause-words
returns-in-None-clause-words c = word_last c.args.line.now c.requires.some (search rules)
