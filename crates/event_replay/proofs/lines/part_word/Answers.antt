use Rattle.std.proofs.Common.{rules}
use Rattle.std.proofs.lemmas.List.{take_rest}
use Rattle.event_replay.proofs.Pieces.{parted, none_past}
use Rattle.event_replay.proofs.lines.part_word.Goals as goal

pub returns-in-Some : goal.returns-in-Some
returns-in-Some c =
    let found = parted c.args.word.now c.in-Some.place (search rules) (search rules) (search rules) in
    rw take_rest found

pub returns-in-None : goal.returns-in-None
returns-in-None c = none_past c.args.word.now (search rules)
