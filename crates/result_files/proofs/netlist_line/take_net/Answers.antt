use Rattle.std.proofs.Common.{rules}
use Rattle.result_files.proofs.netlist_line.take_net.Goals as goal
use Rattle.result_files.proofs.Numbers.{no_net}

pub returns-else-place-nets : goal.returns-else-place-nets
returns-else-place-nets c =
    no_net c.args.nets c.in_ok-place.place _ _ (search rules) c.ranges.nets.fits (search rules) c.in_ok-place.ensures
