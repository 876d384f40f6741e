use Rattle.graph_rank.proofs.Cuts.{row_is}
use Rattle.graph_rank.proofs.graph.row_of.Goals as goal

pub returns : goal.returns
returns c = rw c.row_start-start.ensures (row_is c.args.items.now c.args.ends.now c.args.place c.requires.within)
