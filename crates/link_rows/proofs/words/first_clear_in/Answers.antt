use Rattle.link_rows.proofs.WordBits.{all-set, first-clear}
use Rattle.link_rows.proofs.words.first_clear_in.Goals as goal

pub returns-then-clear-eq0 : goal.returns-then-clear-eq0
returns-then-clear-eq0 c = all-set c.args.word c.args.from c.ranges.word.fits c.requires c.if-clear-eq0.true

pub returns : goal.returns
returns c = first-clear c.args.word c.args.from c.ranges.word.fits c.requires c.if-clear-eq0.false
