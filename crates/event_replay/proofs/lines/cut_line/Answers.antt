use Rattle.std.proofs.Common.{rules}
use Rattle.std.proofs.lemmas.List.{take_rest}
use Rattle.event_replay.proofs.Pieces.{line_cut, line_last}
use Rattle.event_replay.proofs.lines.cut_line.Goals as goal

pub returns-in-Some-clause-lines : goal.returns-in-Some-clause-lines
returns-in-Some-clause-lines c =
    rw (c.strip_returns.ensures, take_rest) (line_cut c.args.text.now c.in-Some.end (search rules) (search rules) (search rules))

pub returns-in-None-clause-lines : goal.returns-in-None-clause-lines
returns-in-None-clause-lines c = rw c.strip_returns-in-None.ensures (line_last c.args.text.now (search rules))
